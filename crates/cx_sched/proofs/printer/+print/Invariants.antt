use Rattle.std.proofs.Common.{◌≡◌, ◌++◌, drop}
use Rattle.cx_sched.specs.Printed.{nodes}
use Rattle.cx_sched.proofs.printer.+print.Given as goal

abbrev pub invariant-push_nodes-loop-item : goal.invariant-push_nodes-loop-item
invariant-push_nodes-loop-item l =
    l.tokens ++ nodes (drop l.item-index l.items) ≡ l.fn.tokens ++ nodes l.items
