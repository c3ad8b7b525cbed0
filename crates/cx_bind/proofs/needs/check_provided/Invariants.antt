use Rattle.std.proofs.Common.{◌≡◌, drop}
use Rattle.cx_plan.specs.Lists.{first_of_each}
use Rattle.cx_bind.specs.declared.thorns.BindFault.TheVariants.{MissingCapability}
use Rattle.cx_bind.specs.NameSets.{has}
use Rattle.cx_bind.specs.Faults.{missing}
use Rattle.cx_bind.proofs.needs.check_provided.Given as goal

abbrev pub invariant-loop-thorn : goal.invariant-loop-thorn
invariant-loop-thorn l =
    first_of_each (λ t. missing (λ c. MissingCapability t.name c) (has l.provided) t.conf.requires_)
    (drop l.thorn-index l.thorns)
    ≡ first_of_each (λ t. missing (λ c. MissingCapability t.name c) (has l.provided)
    t.conf.requires_) l.thorns
