use Rattle.std.proofs.Common.{◌∙◌}
use Rattle.cx_bind.specs.NamePlaces.{place_of}
use Rattle.cx_values.proofs.SteerLaws.{steers}
use Rattle.cx_values.proofs.steering.steer.Goals as goal

pub returns : goal.returns
returns c =
    steers c.args.bound.now c.args.values.now c.args.lines.now
    c.as_slice-thorns.result.now c.as_slice-params.result.now c.in_ok-dues.dues
    c.as_slice.result.now (place_of c.in_ok-names.names)
    (c.as_slice-thorns.ensures ∙ c.thorns.ensures.thorns)
    (c.as_slice-params.ensures ∙ c.parameters.ensures)
    c.in_ok-dues.ensures c.as_slice.ensures c.in_ok-names.ensures c.all_steps.result
    c.all_steps.ensures.told c.all_steps.ensures.steps
