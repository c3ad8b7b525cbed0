use Rattle.std.proofs.Common.{subst}
use Rattle.cx_rule.specs.Swept.{Sweeps}
use Rattle.cx_field.proofs.sweep.sweep_part.Goals as goal

pub returns : goal.returns
returns g c =
    subst
    (λ o. Sweeps c.args.patch.now ((goal.Routine-dyn g o).rule o.1)
    c.args.item.now c.args.iteration c.sweep.new.patch c.args.meter.now c.sweep.new.meter
    c.sweep.result)
    c.deref_box-1.ensures.1 c.sweep.ensures
