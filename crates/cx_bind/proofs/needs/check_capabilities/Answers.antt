use Rattle.std.proofs.Common.{subst}
use Rattle.cx_bind.specs.NameSets.{has}
use Rattle.cx_bind.specs.Faults.{is_provided}
use Rattle.cx_text.specs.Telling.{Tells}
use Rattle.cx_bind.specs.declared.thorns.BindFault.TheVariants.{Memory}
use Rattle.cx_bind.proofs.HasLaws.{capabilities_alike}
use Rattle.cx_bind.proofs.needs.check_capabilities.Goals as goal

pub returns : goal.returns
returns c =
    subst (λ o. Tells Memory o c.check_provided.result)
    (capabilities_alike (has c.in_ok-provided.provided) (is_provided c.args.thorns.now)
    c.in_ok-provided.ensures c.args.thorns.now) c.check_provided.ensures
