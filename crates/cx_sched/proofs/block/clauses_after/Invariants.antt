use Rattle.std.proofs.Common.{length}
use Rattle.cx_text.specs.Rules.{loop}
use Rattle.cx_sched.specs.Blocks.{is_clause, clause}
use Rattle.cx_text.proofs.Loops.{SoFar}
use Rattle.cx_sched.proofs.block.clauses_after.Given as goal

abbrev pub invariant-clauses : goal.invariant-clauses
invariant-clauses l = SoFar is_clause clause l.clauses l.reader.rest.now
    ((loop is_clause clause l.fn.clauses).reads l.fn.reader.rest.now)

abbrev pub decreases-clauses : goal.decreases-clauses
decreases-clauses l = length l.reader.rest.now
