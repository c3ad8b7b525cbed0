use Rattle.std.proofs.Common.{◌≡◌, take}
use Rattle.cx_scope.specs.Names.{named_variables}
use Rattle.cx_scope.proofs.names.named_variables.Given as goal

abbrev pub invariant-thorns : goal.invariant-thorns
invariant-thorns l = l.named ≡ named_variables (take l.number l.thorns)
