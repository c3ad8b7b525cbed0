use Rattle.std.proofs.Common.{◌≡◌, map, take}
use Rattle.cx_scope.specs.Resolving.{var_id}
use Rattle.cx_scope.proofs.stored.var_ids.Given as goal

abbrev pub invariant-places : goal.invariant-places
invariant-places l = l.ids ≡ map var_id (take l.place-index l.places)
