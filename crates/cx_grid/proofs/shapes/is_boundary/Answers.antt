use Rattle.std.proofs.Common.{rules, w32, SFits, ◌≡◌, ◌∙◌, refl, Bool, ◌||◌}
use Rattle.std.proofs.lemmas.Int.{to_z-of_z}
use Rattle.cx_grid.specs.Grid.{in_face}
use Rattle.cx_grid.proofs.shapes.is_boundary.Goals as goal

same_any : {a b c x y z : Bool} → a ≡ x → b ≡ y → c ≡ z → (a || (b || c)) ≡ (x || (y || z))
same_any p q r = rw (p, q, r) refl

pub returns : goal.returns
returns c =
    let px : SFits w32 c.args.p.x = search rules in
    let py : SFits w32 c.args.p.y = search rules in
    let pz : SFits w32 c.args.p.z = search rules in
    let nx : SFits w32 c.args.shape.now.n.x = search rules in
    let ny : SFits w32 c.args.shape.now.n.y = search rules in
    let nz : SFits w32 c.args.shape.now.n.z = search rules in
    let gx : SFits w32 c.args.shape.now.ghost_.x = search rules in
    let gy : SFits w32 c.args.shape.now.ghost_.y = search rules in
    let gz : SFits w32 c.args.shape.now.ghost_.z = search rules in
    let x = simp to_z-of_z at c.is_in_face-x.ensures in
    let y = simp to_z-of_z at c.is_in_face-y.ensures in
    let z = simp to_z-of_z at c.is_in_face-z.ensures in
    c.any_of.ensures
    ∙ same_any {a = c.is_in_face-x.result} {b = c.is_in_face-y.result} {c = c.is_in_face-z.result}
    {x = in_face c.args.shape.now 0 c.args.p.x} {y = in_face c.args.shape.now 1 c.args.p.y}
    {z = in_face c.args.shape.now 2 c.args.p.z}
    x y z
