use Rattle.std.proofs.Common.{rules, w32, SFits, ◌∙◌, ap}
use Rattle.std.proofs.lemmas.Int.{to_z-of_z}
use Rattle.cx_grid.specs.Grid.{is_boundary}
use Rattle.cx_grid.proofs.Places.{same_point}
use Rattle.cx_grid.proofs.Interior.{interior, near, inside}
use Rattle.cx_grid.proofs.shapes.clamp.Goals as goal

pub returns-clause-value : goal.returns-clause-value
returns-clause-value c =
    let px : SFits w32 c.args.p.x = search rules in
    let py : SFits w32 c.args.p.y = search rules in
    let pz : SFits w32 c.args.p.z = search rules in
    let nx : SFits w32 c.args.shape.now.n.x = search rules in
    let ny : SFits w32 c.args.shape.now.n.y = search rules in
    let nz : SFits w32 c.args.shape.now.n.z = search rules in
    let gx : SFits w32 c.args.shape.now.ghost_.x = search rules in
    let gy : SFits w32 c.args.shape.now.ghost_.y = search rules in
    let gz : SFits w32 c.args.shape.now.ghost_.z = search rules in
    let rx : SFits w32 c.clamped.result = search rules in
    let ry : SFits w32 c.clamped-2.result = search rules in
    let rz : SFits w32 c.clamped-3.result = search rules in
    same_point
    (to_z-of_z w32 _ rx ∙ simp to_z-of_z at c.clamped.ensures.value)
    (to_z-of_z w32 _ ry ∙ simp to_z-of_z at c.clamped-2.ensures.value)
    (to_z-of_z w32 _ rz ∙ simp to_z-of_z at c.clamped-3.ensures.value)

pub returns-clause-interior : goal.returns-clause-interior
returns-clause-interior c wide =
    ap (is_boundary c.args.shape.now) (returns-clause-value c)
    ∙ interior c.args.shape.now c.args.p c.requires wide

pub returns-clause-near : goal.returns-clause-near
returns-clause-near c wide =
    rw (returns-clause-value c) (near c.args.shape.now c.args.p c.requires wide)

pub returns-clause-inside : goal.returns-clause-inside
returns-clause-inside c wide =
    rw (returns-clause-value c) (inside c.args.shape.now c.args.p c.requires wide)
