use Rattle.std.proofs.Common.{◌≡◌, length}
use Rattle.cx_expr.specs.AtMost.{past}
use Rattle.cx_expr.proofs.part.past.Given as goal

abbrev pub invariant-behind : goal.invariant-behind
invariant-behind l = past l.left l.rest ≡ past l.most l.tokens

abbrev pub decreases-behind : goal.decreases-behind
decreases-behind l = length l.rest
