use Rattle.std.proofs.Common.{length}
use Rattle.cx_text.specs.Rules.{loop}
use Rattle.cx_conf.specs.Conf.{is_entry, more}
use Rattle.cx_text.proofs.Loops.{SoFar}
use Rattle.cx_conf.proofs.configuration.entries.Given as goal

abbrev pub invariant-entries : goal.invariant-entries
invariant-entries l = SoFar is_entry more l.read l.reader.rest.now
    ((loop is_entry more l.fn.read).reads l.fn.reader.rest.now)

abbrev pub decreases-entries : goal.decreases-entries
decreases-entries l = length l.reader.rest.now
