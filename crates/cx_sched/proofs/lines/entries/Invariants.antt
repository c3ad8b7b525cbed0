use Rattle.std.proofs.Common.{length}
use Rattle.cx_text.specs.Rules.{loop}
use Rattle.cx_text.specs.Lexemes.{is_inside}
use Rattle.cx_sched.specs.Lines.{entry}
use Rattle.cx_text.proofs.Loops.{SoFar}
use Rattle.cx_sched.proofs.lines.entries.Given as goal

abbrev pub invariant-entries : goal.invariant-entries
invariant-entries l = SoFar is_inside entry l.lines l.reader.rest.now
    ((loop is_inside entry l.fn.lines).reads l.fn.reader.rest.now)

abbrev pub decreases-entries : goal.decreases-entries
decreases-entries l = length l.reader.rest.now
