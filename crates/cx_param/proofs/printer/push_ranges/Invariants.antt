use Rattle.std.proofs.Common.{◌≡◌, ◌++◌, drop}
use Rattle.cx_param.specs.Printed.{each_range}
use Rattle.cx_param.proofs.printer.push_ranges.Given as goal

abbrev pub invariant-loop-item : goal.invariant-loop-item
invariant-loop-item l = l.tokens ++ each_range (drop l.item-index l.items)
    ≡ l.fn.tokens ++ each_range l.items
