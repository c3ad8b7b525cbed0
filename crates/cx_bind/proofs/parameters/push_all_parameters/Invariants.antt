use Rattle.std.proofs.Common.{◌≡◌, ◌++◌, take}
use Rattle.cx_bind.specs.Parameters.{thorn_parameters}
use Rattle.cx_bind.proofs.parameters.push_all_parameters.Given as goal

abbrev pub invariant-thorns : goal.invariant-thorns
invariant-thorns l = l.params
    ≡ l.fn.params ++ thorn_parameters l.extensions (take l.number l.thorns)
