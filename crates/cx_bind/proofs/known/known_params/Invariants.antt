use Rattle.std.proofs.Common.{◌≡◌, take, map}
use Rattle.cx_bind.specs.Parameters.{known_by}
use Rattle.cx_bind.proofs.known.known_params.Given as goal

abbrev pub invariant-params : goal.invariant-params
invariant-params l = l.knowns ≡ map known_by (take l.param-index l.params)
