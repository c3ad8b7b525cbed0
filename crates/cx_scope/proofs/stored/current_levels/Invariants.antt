use Rattle.cx_scope.proofs.StoredLaws.{SoFar}
use Rattle.cx_scope.proofs.stored.current_levels.Given as goal

abbrev pub invariant-places : goal.invariant-places
invariant-places l = SoFar l.storage l.name l.places l.place-index l.levels
