use Rattle.std.proofs.Common.{◌≡◌, ◌++◌, take}
use Rattle.std.specs.List.{flat_map}
use Rattle.cx_iface.specs.Printed.{line}
use Rattle.cx_iface.proofs.printer.lines.Given as goal

abbrev pub invariant-loop-other : goal.invariant-loop-other
invariant-loop-other l = l.tokens ≡ l.fn.tokens ++ flat_map line (take l.other-index l.others)
