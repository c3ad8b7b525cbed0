use Rattle.std.proofs.Common.{◌≤◌, ◌+◌, ◌*◌, length}
use Rattle.cx_text.specs.Rules.{loop}
use Rattle.cx_text.proofs.Loops.{SoFar}
use Rattle.cx_expr.specs.Exprs.{is_among, joined, operand, signs_of, under}
use Rattle.cx_expr.proofs.ExprLaws.{rank}
use Rattle.cx_expr.proofs.read.+expr.Given as goal

-- the tokens left, and how many calls may follow before one is taken
abbrev pub decreases-parens : goal.decreases-parens
decreases-parens l = 16 * length l.reader.now.rest.now + 0

abbrev pub decreases-negation : goal.decreases-negation
decreases-negation l = 16 * length l.reader.now.rest.now + 0

abbrev pub decreases-negative : goal.decreases-negative
decreases-negative l = 16 * length l.reader.now.rest.now + 0

abbrev pub decreases-joined : goal.decreases-joined
decreases-joined l = 16 * length l.reader.now.rest.now + 0

abbrev pub decreases-more : goal.decreases-more
decreases-more l = 16 * length l.reader.now.rest.now + 1

abbrev pub decreases-operand : goal.decreases-operand
decreases-operand l = 16 * length l.reader.now.rest.now + 1

abbrev pub decreases-under : goal.decreases-under
decreases-under l = 16 * length l.reader.now.rest.now + (rank l.level + 2)

abbrev pub decreases-chain_at : goal.decreases-chain_at
decreases-chain_at l = 16 * length l.reader.now.rest.now + (rank l.level + 3)

abbrev pub decreases-compared : goal.decreases-compared
decreases-compared l = 16 * length l.reader.now.rest.now + 7

abbrev pub invariant-more-more : goal.invariant-more-more
invariant-more-more l = record {
  so_far : SoFar (is_among (signs_of l.level))
      (joined (signs_of l.level) (under l.level (operand l.depth l.signs))) l.left l.reader.rest.now
      ((loop (is_among (signs_of l.level))
      (joined (signs_of l.level) (under l.level (operand l.depth l.signs))) l.fn.first).reads
      l.fn.reader.rest.now);
  fewer : length l.reader.rest.now ≤ length l.fn.reader.rest.now;
}

abbrev pub decreases-more-more : goal.decreases-more-more
decreases-more-more l = length l.reader.rest.now
