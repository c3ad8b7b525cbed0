use Rattle.std.proofs.Common.{◌≡◌, take}
use Rattle.cx_scope.specs.Names.{named_groups}
use Rattle.cx_scope.proofs.names.named_groups.Given as goal

abbrev pub invariant-thorns : goal.invariant-thorns
invariant-thorns l = l.named ≡ named_groups (take l.number l.thorns)
