use Rattle.std.proofs.Common.{◌≡◌, drop}
use Rattle.cx_plan.specs.Lists.{first_of_each}
use Rattle.cx_values.specs.Faults.{default_fault}
use Rattle.cx_values.proofs.slots.check_defaults.Given as goal

abbrev pub invariant-loop-param : goal.invariant-loop-param
invariant-loop-param l =
    first_of_each default_fault (drop l.param-index l.params) ≡ first_of_each default_fault l.params
