use Rattle.std.proofs.Common.{◌∙◌, ap}
use Rattle.cx_rule.specs.Faces.{box_numbers, face_in}
use Rattle.cx_rule.proofs.patch.Patch.copy_face.Goals as goal

pub returns : goal.returns
returns c =
    let e = rw (c.face-layers.ensures.value, c.as_slice.ensures) at c.in_ok-values.ensures in
    c.new.ensures ∙ e ∙ ap (λ p. box_numbers p (face_in p c.args.dir c.args.side) c.args.vars.now)
    c.self.view_is
