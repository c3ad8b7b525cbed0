use Rattle.std.proofs.Common.{length}
use Rattle.cx_text.specs.Rules.{loop}
use Rattle.cx_param.specs.Params.{is_entry, entry}
use Rattle.cx_text.proofs.Loops.{SoFar}
use Rattle.cx_param.proofs.params.entries.Given as goal

abbrev pub invariant-turns : goal.invariant-turns
invariant-turns l = SoFar is_entry entry l.read l.reader.rest.now
    ((loop is_entry entry l.fn.read).reads l.fn.reader.rest.now)

abbrev pub decreases-turns : goal.decreases-turns
decreases-turns l = length l.reader.rest.now
