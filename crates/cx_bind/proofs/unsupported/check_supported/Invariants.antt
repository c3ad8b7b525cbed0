use Rattle.std.proofs.Common.{◌≡◌, drop}
use Rattle.cx_plan.specs.Lists.{first_of_each}
use Rattle.cx_bind.specs.Faults.{unsupported_of}
use Rattle.cx_bind.proofs.unsupported.check_supported.Given as goal

abbrev pub invariant-loop-thorn : goal.invariant-loop-thorn
invariant-loop-thorn l =
    first_of_each (unsupported_of) (drop l.thorn-index l.thorns)
    ≡ first_of_each (unsupported_of) l.thorns
