use Rattle.std.proofs.Common.{◌≡◌, take}
use Rattle.cx_bind.proofs.VariableLaws.{infos}
use Rattle.cx_bind.proofs.variables.variable_infos.Given as goal

abbrev pub invariant-thorns : goal.invariant-thorns
invariant-thorns l = l.infos ≡ infos (take l.thorn-index l.thorns)
