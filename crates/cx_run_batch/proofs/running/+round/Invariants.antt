use Rattle.std.proofs.Common.{length}
use Rattle.cx_run_batch.proofs.running.+round.Given as goal

abbrev pub decreases-round : goal.decreases-round
decreases-round g l = length l.members.now
