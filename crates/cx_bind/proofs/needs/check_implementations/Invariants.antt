use Rattle.std.proofs.Common.{◌≡◌, drop}
use Rattle.cx_plan.specs.Lists.{first_of_each}
use Rattle.cx_bind.specs.Faults.{missing_implementation_of}
use Rattle.cx_bind.proofs.needs.check_implementations.Given as goal

abbrev pub invariant-loop-thorn : goal.invariant-loop-thorn
invariant-loop-thorn l =
    first_of_each (missing_implementation_of l.active) (drop l.thorn-index l.thorns)
    ≡ first_of_each (missing_implementation_of l.active) l.thorns
