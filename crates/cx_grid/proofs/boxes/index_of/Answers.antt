use Rattle.std.proofs.Common.{rules, w32, SFits, ◌≡◌, ℕ, ◌<◌, ◌*◌}
use Rattle.std.proofs.lemmas.Int.{to_z-of_z}
use Rattle.cx_grid.proofs.Places.{gap_below}
use Rattle.cx_grid.proofs.boxes.index_of.Goals as goal

along : {x n g h : ℕ} → x ≡ g → n ≡ h → g < h → x < n
along a b l = rw (a, b) l

all : {x y z a b c m : ℕ} → x ≡ a → y ≡ b → z ≡ c → a * b * c < m → x * y * z < m
all p q r l = rw (p, q, r) l

pub place-requires-clause-x : goal.place-requires-clause-x
place-requires-clause-x c =
    let l : SFits w32 c.args.b.now.low.x = search rules in
    let h : SFits w32 c.args.b.now.high.x = search rules in
    let p : SFits w32 c.args.p.x = search rules in
    along (simp to_z-of_z at c.gap.ensures.value) (simp to_z-of_z at c.gap-2.ensures.value)
    (gap_below _ _ _ c.requires.point.x)

pub place-requires-clause-y : goal.place-requires-clause-y
place-requires-clause-y c =
    let l : SFits w32 c.args.b.now.low.y = search rules in
    let h : SFits w32 c.args.b.now.high.y = search rules in
    let p : SFits w32 c.args.p.y = search rules in
    along (simp to_z-of_z at c.gap-3.ensures.value) (simp to_z-of_z at c.gap-4.ensures.value)
    (gap_below _ _ _ c.requires.point.y)

pub place-requires-clause-z : goal.place-requires-clause-z
place-requires-clause-z c =
    let l : SFits w32 c.args.b.now.low.z = search rules in
    let h : SFits w32 c.args.b.now.high.z = search rules in
    let p : SFits w32 c.args.p.z = search rules in
    along (simp to_z-of_z at c.gap-5.ensures.value) (simp to_z-of_z at c.gap-6.ensures.value)
    (gap_below _ _ _ c.requires.point.z)

pub place-requires-clause-few : goal.place-requires-clause-few
place-requires-clause-few c =
    let lx : SFits w32 c.args.b.now.low.x = search rules in
    let ly : SFits w32 c.args.b.now.low.y = search rules in
    let lz : SFits w32 c.args.b.now.low.z = search rules in
    let hx : SFits w32 c.args.b.now.high.x = search rules in
    let hy : SFits w32 c.args.b.now.high.y = search rules in
    let hz : SFits w32 c.args.b.now.high.z = search rules in
    all (simp to_z-of_z at c.gap-2.ensures.value) (simp to_z-of_z at c.gap-4.ensures.value)
    (simp to_z-of_z at c.gap-6.ensures.value) c.requires.small
