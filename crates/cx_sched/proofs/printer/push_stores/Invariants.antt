use Rattle.std.proofs.Common.{◌≡◌, ◌++◌, drop}
use Rattle.cx_sched.specs.Printed.{stores}
use Rattle.cx_sched.proofs.printer.push_stores.Given as goal

abbrev pub invariant-loop-item : goal.invariant-loop-item
invariant-loop-item l = l.tokens ++ stores (drop l.item-index l.items)
    ≡ l.fn.tokens ++ stores l.items
