use Rattle.cx_scope.proofs.StoredLaws.{Members}
use Rattle.cx_scope.proofs.sought.members.Given as goal

abbrev pub invariant-variables : goal.invariant-variables
invariant-variables l = Members l.group l.variables l.places l.place
