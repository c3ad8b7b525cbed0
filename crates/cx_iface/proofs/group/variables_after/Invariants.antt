use Rattle.std.proofs.Common.{length}
use Rattle.cx_text.specs.Rules.{loop}
use Rattle.cx_text.specs.Lexemes.{is_comma_or_word}
use Rattle.cx_iface.specs.Groups.{more_variables}
use Rattle.cx_text.proofs.Loops.{SoFar}
use Rattle.cx_iface.proofs.group.variables_after.Given as goal

abbrev pub invariant-variables : goal.invariant-variables
invariant-variables l = SoFar is_comma_or_word more_variables l.variables l.reader.rest.now
    ((loop is_comma_or_word more_variables l.fn.variables).reads l.fn.reader.rest.now)

abbrev pub decreases-variables : goal.decreases-variables
decreases-variables l = length l.reader.rest.now
