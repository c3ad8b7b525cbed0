use Rattle.std.proofs.Common.{rules, w32, SFits, ◌≡◌, ◌∙◌, sym, refl, Bool, ◌&&◌}
use Rattle.std.proofs.lemmas.Int.{to_z-of_z}
use Rattle.cx_grid.proofs.Points.{in_is, in_from}
use Rattle.cx_grid.proofs.boxes.contains.Goals as goal

same_all : {a b c x y z : Bool} → a ≡ x → b ≡ y → c ≡ z → (a && b && c) ≡ (x && y && z)
same_all p q r = rw (p, q, r) refl

pub returns-clause-value : goal.returns-clause-value
returns-clause-value c =
    let lx : SFits w32 c.args.b.now.low.x = search rules in
    let ly : SFits w32 c.args.b.now.low.y = search rules in
    let lz : SFits w32 c.args.b.now.low.z = search rules in
    let hx : SFits w32 c.args.b.now.high.x = search rules in
    let hy : SFits w32 c.args.b.now.high.y = search rules in
    let hz : SFits w32 c.args.b.now.high.z = search rules in
    let px : SFits w32 c.args.p.x = search rules in
    let py : SFits w32 c.args.p.y = search rules in
    let pz : SFits w32 c.args.p.z = search rules in
    let x = simp to_z-of_z at c.is_on-x.ensures in
    let y = simp to_z-of_z at c.is_on-y.ensures in
    let z = simp to_z-of_z at c.is_on-z.ensures in
    c.all_three.ensures ∙ same_all x y z

pub returns-clause-inside : goal.returns-clause-inside
returns-clause-inside c =
    let value = returns-clause-value c in (
      λ t. in_is c.args.b.now c.args.p (sym value ∙ t),
      λ h. value ∙ in_from c.args.b.now c.args.p h,
    )
