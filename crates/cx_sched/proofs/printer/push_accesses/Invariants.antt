use Rattle.std.proofs.Common.{◌≡◌, ◌++◌, drop}
use Rattle.cx_sched.specs.Printed.{accesses}
use Rattle.cx_sched.proofs.printer.push_accesses.Given as goal

abbrev pub invariant-loop-item : goal.invariant-loop-item
invariant-loop-item l = l.tokens ++ accesses (drop l.item-index l.items)
    ≡ l.fn.tokens ++ accesses l.items
