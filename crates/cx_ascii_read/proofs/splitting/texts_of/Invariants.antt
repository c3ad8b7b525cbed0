use Rattle.std.proofs.Common.{length}
use Rattle.cx_ascii_read.proofs.SplitLaws.{AreSplit}
use Rattle.cx_ascii_read.proofs.splitting.texts_of.Given as goal

abbrev pub invariant-each : goal.invariant-each
invariant-each l = AreSplit l.bytes l.names l.texts.items l.rest

abbrev pub decreases-each : goal.decreases-each
decreases-each l = length l.rest
