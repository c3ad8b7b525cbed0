use Rattle.std.proofs.Common.{◌≡◌, take}
use Rattle.cx_bind.specs.Parameters.{extensions}
use Rattle.cx_bind.proofs.parameters.all_extensions.Given as goal

abbrev pub invariant-thorns : goal.invariant-thorns
invariant-thorns l = l.found ≡ extensions (take l.thorn-index l.thorns)
