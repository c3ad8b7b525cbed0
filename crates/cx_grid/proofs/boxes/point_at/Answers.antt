use Rattle.std.proofs.Common.{rules, w32, SFits, ◌∙◌, ap, pos, ◌+ℤ◌}
use Rattle.std.proofs.lemmas.Int.{to_z-of_z}
use Rattle.cx_grid.proofs.Places.{same_point}
use Rattle.cx_grid.proofs.boxes.point_at.Goals as goal

pub returns-clause-value : goal.returns-clause-value
returns-clause-value c =
    let lx : SFits w32 c.args.b.now.low.x = search rules in
    let ly : SFits w32 c.args.b.now.low.y = search rules in
    let lz : SFits w32 c.args.b.now.low.z = search rules in
    let hx : SFits w32 c.args.b.now.high.x = search rules in
    let hy : SFits w32 c.args.b.now.high.y = search rules in
    let fx : SFits w32 c.moved.result = search rules in
    let fy : SFits w32 c.moved-2.result = search rules in
    let fz : SFits w32 c.moved-3.result = search rules in
    let gx = simp to_z-of_z at c.gap.ensures.value in
    let gy = simp to_z-of_z at c.gap-2.ensures.value in
    let cx = rw (gx, gy) at c.coordinates-x.ensures.value in
    same_point
    (to_z-of_z w32 _ fx ∙ simp to_z-of_z at c.moved.ensures.value
    ∙ ap (λ r. c.args.b.now.low.x +ℤ pos r.0) cx)
    (to_z-of_z w32 _ fy ∙ simp to_z-of_z at c.moved-2.ensures.value
    ∙ ap (λ r. c.args.b.now.low.y +ℤ pos r.1) cx)
    (to_z-of_z w32 _ fz ∙ simp to_z-of_z at c.moved-3.ensures.value
    ∙ ap (λ r. c.args.b.now.low.z +ℤ pos r.2) cx)

pub returns-clause-inside : goal.returns-clause-inside
returns-clause-inside c =
    let lx : SFits w32 c.args.b.now.low.x = search rules in
    let ly : SFits w32 c.args.b.now.low.y = search rules in
    let lz : SFits w32 c.args.b.now.low.z = search rules in
    let hx : SFits w32 c.args.b.now.high.x = search rules in
    let hy : SFits w32 c.args.b.now.high.y = search rules in
    let hz : SFits w32 c.args.b.now.high.z = search rules in
    let fx : SFits w32 c.moved.result = search rules in
    let fy : SFits w32 c.moved-2.result = search rules in
    let fz : SFits w32 c.moved-3.result = search rules in
    let x = simp to_z-of_z at c.moved.ensures.on in
    let y = simp to_z-of_z at c.moved-2.ensures.on in
    let z = simp to_z-of_z at c.moved-3.ensures.on in
    simp to_z-of_z (record { x = x; y = y; z = z })
