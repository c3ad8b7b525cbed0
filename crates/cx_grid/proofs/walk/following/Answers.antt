use Rattle.std.proofs.Common.{rules, w32, SFits}
use Rattle.std.proofs.lemmas.Int.{to_z-of_z}
use Rattle.cx_grid.proofs.Following.{left_next, left_last, next_x, next_y, next_z, next_none, in_next_z}
use Rattle.cx_grid.proofs.walk.following.Goals as goal

pub returns-in-Some-clause-left : goal.returns-in-Some-clause-left
returns-in-Some-clause-left c =
    let px : SFits w32 c.args.p.x = search rules in
    let py : SFits w32 c.args.p.y = search rules in
    let pz : SFits w32 c.args.p.z = search rules in
    let nx : SFits w32 c.in-Some.x = search rules in
    let x = simp to_z-of_z at c.in-Some.ensures.some in
    simp to_z-of_z
    (rw x.0 (left_next c.args.b.now c.args.p _ c.requires
    (next_x c.args.b.now c.args.p c.requires)))

pub returns-in-Some-next_below-clause-left : goal.returns-in-Some-next_below-clause-left
returns-in-Some-next_below-clause-left c =
    let px : SFits w32 c.args.p.x = search rules in
    let py : SFits w32 c.args.p.y = search rules in
    let pz : SFits w32 c.args.p.z = search rules in
    let lx : SFits w32 c.args.b.now.low.x = search rules in
    let hx : SFits w32 c.args.b.now.high.x = search rules in
    let ny : SFits w32 c.in-Some-next_below.y = search rules in
    let x = simp to_z-of_z at c.in_default.ensures.none in
    let y = simp to_z-of_z at c.in-Some-next_below.ensures.some in
    simp to_z-of_z
    (rw y.0 (left_next c.args.b.now c.args.p _ c.requires
    (next_y c.args.b.now c.args.p c.requires x)))

pub returns-in_err-z-clause-left : goal.returns-in_err-z-clause-left
returns-in_err-z-clause-left c =
    let px : SFits w32 c.args.p.x = search rules in
    let py : SFits w32 c.args.p.y = search rules in
    let pz : SFits w32 c.args.p.z = search rules in
    let hx : SFits w32 c.args.b.now.high.x = search rules in
    let hy : SFits w32 c.args.b.now.high.y = search rules in
    let hz : SFits w32 c.args.b.now.high.z = search rules in
    let x = simp to_z-of_z at c.in_default.ensures.none in
    let y = simp to_z-of_z at c.in_default-next_below.ensures.none in
    let z = simp to_z-of_z at c.in_err-z.ensures.none in
    rw c.from_residual.ensures
    (left_last c.args.b.now c.args.p c.requires
    (next_none c.args.b.now c.args.p c.requires x y z))

pub returns-clause-next : goal.returns-clause-next
returns-clause-next c =
    let pz : SFits w32 c.args.p.z = search rules in
    let lx : SFits w32 c.args.b.now.low.x = search rules in
    let ly : SFits w32 c.args.b.now.low.y = search rules in
    let hz : SFits w32 c.args.b.now.high.z = search rules in
    let nz : SFits w32 c.in_ok-z.z = search rules in
    let z = simp to_z-of_z at c.in_ok-z.ensures.some in
    simp to_z-of_z (in_next_z c.args.b.now c.args.p c.in_ok-z.z c.requires z.0 z.1)

pub returns-clause-left : goal.returns-clause-left
returns-clause-left c =
    let px : SFits w32 c.args.p.x = search rules in
    let py : SFits w32 c.args.p.y = search rules in
    let pz : SFits w32 c.args.p.z = search rules in
    let lx : SFits w32 c.args.b.now.low.x = search rules in
    let ly : SFits w32 c.args.b.now.low.y = search rules in
    let hx : SFits w32 c.args.b.now.high.x = search rules in
    let hy : SFits w32 c.args.b.now.high.y = search rules in
    let nz : SFits w32 c.in_ok-z.z = search rules in
    let x = simp to_z-of_z at c.in_default.ensures.none in
    let y = simp to_z-of_z at c.in_default-next_below.ensures.none in
    let z = simp to_z-of_z at c.in_ok-z.ensures.some in
    simp to_z-of_z
    (rw z.0 (left_next c.args.b.now c.args.p _ c.requires
    (next_z c.args.b.now c.args.p c.requires x y)))
