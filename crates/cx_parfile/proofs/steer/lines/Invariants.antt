use Rattle.std.proofs.Common.{length}
use Rattle.cx_text.specs.Tokens.{is_word}
use Rattle.cx_text.specs.Rules.{loop}
use Rattle.cx_parfile.specs.SteerFile.{steer_line}
use Rattle.cx_text.proofs.Loops.{SoFar}
use Rattle.cx_parfile.proofs.steer.lines.Given as goal

abbrev pub invariant-lines : goal.invariant-lines
invariant-lines l = SoFar is_word steer_line l.read l.reader.rest.now
    ((loop is_word steer_line l.fn.read).reads l.fn.reader.rest.now)

abbrev pub decreases-lines : goal.decreases-lines
decreases-lines l = length l.reader.rest.now
