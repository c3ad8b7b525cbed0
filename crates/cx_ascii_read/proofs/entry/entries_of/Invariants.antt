use Rattle.std.proofs.Common.{length}
use Rattle.cx_ascii_read.proofs.EntryLaws.{AreRead}
use Rattle.cx_ascii_read.proofs.entry.entries_of.Given as goal

abbrev pub invariant-each : goal.invariant-each
invariant-each g l = AreRead g.E.Entry.text g.E.Entry.fits l.bytes l.entries l.rest

abbrev pub decreases-each : goal.decreases-each
decreases-each g l = length l.rest
