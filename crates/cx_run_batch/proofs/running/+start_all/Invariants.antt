use Rattle.std.proofs.Common.{length}
use Rattle.cx_run_batch.proofs.running.+start_all.Given as goal

abbrev pub decreases-start_all : goal.decreases-start_all
decreases-start_all g l = length l.members.now
