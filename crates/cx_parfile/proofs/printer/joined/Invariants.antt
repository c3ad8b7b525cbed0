use Rattle.std.proofs.Common.{◌≡◌, take}
use Rattle.cx_parfile.specs.Printed.{joined}
use Rattle.cx_parfile.proofs.printer.joined.Given as goal

abbrev pub invariant-loop-thorn : goal.invariant-loop-thorn
invariant-loop-thorn l = l.value ≡ joined (take l.thorn-index l.thorns)
