use Rattle.std.proofs.Common.{◌≡◌, ◌++◌}
use Rattle.cx_plan.specs.Names.{past}
use Rattle.cx_plan.proofs.names.push_past.Given as goal

abbrev pub invariant-levels : goal.invariant-levels
invariant-levels l = l.text ≡ l.fn.text ++ past l.counter
