use Rattle.std.proofs.Common.{length}
use Rattle.cx_ascii_read.proofs.splitting.+append.Given as goal

abbrev pub decreases-append : goal.decreases-append
decreases-append l = length l.names.now
