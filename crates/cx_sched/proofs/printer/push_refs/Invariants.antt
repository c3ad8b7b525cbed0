use Rattle.std.proofs.Common.{◌≡◌, ◌++◌, drop}
use Rattle.cx_sched.specs.Printed.{refs}
use Rattle.cx_sched.proofs.printer.push_refs.Given as goal

abbrev pub invariant-loop-item : goal.invariant-loop-item
invariant-loop-item l = l.tokens ++ refs (drop l.item-index l.items) ≡ l.fn.tokens ++ refs l.items
