use Rattle.std.proofs.Common.{length}
use Rattle.cx_text.specs.Rules.{loop}
use Rattle.cx_param.specs.Defaults.{more_printed}
use Rattle.cx_text.proofs.Loops.{SoFar}
use Rattle.cx_text.specs.Lexemes.{in_line}
use Rattle.cx_param.proofs.defaults.printed_after.Given as goal

abbrev pub invariant-turns : goal.invariant-turns
invariant-turns l = SoFar in_line more_printed l.text l.reader.rest.now
    ((loop in_line more_printed l.fn.text).reads l.fn.reader.rest.now)

abbrev pub decreases-turns : goal.decreases-turns
decreases-turns l = length l.reader.rest.now
