use Rattle.std.proofs.Common.{◌∙◌}
use Rattle.cx_bind.specs.NamePlaces.{place_of}
use Rattle.cx_values.proofs.AssignLaws.{assigns}
use Rattle.cx_values.proofs.assignment.assign.Goals as goal

pub returns : goal.returns
returns c =
    assigns c.args.bound.now c.args.settings.now.list c.as_slice-thorns.result.now
    c.as_slice-params.result.now c.as_slice.result.now (place_of c.in_ok-names.names)
    (c.as_slice-thorns.ensures ∙ c.thorns.ensures.thorns)
    (c.as_slice-params.ensures ∙ c.parameters.ensures)
    c.as_slice.ensures c.in_ok-names.ensures c.assign_by.result c.assign_by.ensures.told
    c.assign_by.ensures.values
