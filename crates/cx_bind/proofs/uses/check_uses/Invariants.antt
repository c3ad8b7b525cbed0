use Rattle.std.proofs.Common.{◌≡◌, drop}
use Rattle.cx_plan.specs.Lists.{first_of_each}
use Rattle.cx_bind.specs.Parameters.{shared_by}
use Rattle.cx_bind.specs.Faults.{no_parameter_by}
use Rattle.cx_bind.proofs.uses.check_uses.Given as goal

abbrev pub invariant-loop-thorn : goal.invariant-loop-thorn
invariant-loop-thorn l =
    first_of_each (λ t. first_of_each (λ d. no_parameter_by l.table t d (shared_by d.scope))
    t.params) (drop l.thorn-index l.thorns)
    ≡ first_of_each (λ t. first_of_each (λ d. no_parameter_by l.table t d (shared_by d.scope))
    t.params) l.thorns
