use Rattle.std.proofs.Common.{length}
use Rattle.cx_text.specs.Rules.{loop}
use Rattle.cx_text.specs.Lexemes.{is_inside, inside}
use Rattle.cx_text.proofs.Loops.{SoFar}
use Rattle.cx_text.proofs.reader.Reader.skip_inside.Given as goal

abbrev pub invariant-skipped : goal.invariant-skipped
invariant-skipped l = SoFar is_inside inside tt l.self.rest.now
    ((loop is_inside inside tt).reads l.fn.self.rest.now)

abbrev pub decreases-skipped : goal.decreases-skipped
decreases-skipped l = length l.self.rest.now
