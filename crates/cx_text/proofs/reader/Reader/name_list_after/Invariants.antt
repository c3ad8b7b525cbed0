use Rattle.std.proofs.Common.{length}
use Rattle.cx_text.specs.Rules.{loop}
use Rattle.cx_text.specs.Lexemes.{is_comma_or_word, more_listed}
use Rattle.cx_text.proofs.Loops.{SoFar}
use Rattle.cx_text.proofs.reader.Reader.name_list_after.Given as goal

abbrev pub invariant-names : goal.invariant-names
invariant-names l = SoFar is_comma_or_word more_listed l.names l.self.rest.now
    ((loop is_comma_or_word more_listed l.fn.names).reads l.fn.self.rest.now)

abbrev pub decreases-names : goal.decreases-names
decreases-names l = length l.self.rest.now
