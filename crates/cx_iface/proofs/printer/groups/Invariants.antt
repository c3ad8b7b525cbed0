use Rattle.std.proofs.Common.{◌≡◌, ◌++◌, take}
use Rattle.std.specs.List.{flat_map}
use Rattle.cx_iface.specs.Printed.{group}
use Rattle.cx_iface.proofs.printer.groups.Given as goal

abbrev pub invariant-loop-one : goal.invariant-loop-one
invariant-loop-one l = l.tokens ≡ l.fn.tokens ++ flat_map group (take l.one-index l.groups)
