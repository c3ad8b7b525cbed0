use Rattle.std.proofs.Common.{length}
use Rattle.cx_several.proofs.cells.+local_by_all.Given as goal

abbrev pub decreases-local_by_all : goal.decreases-local_by_all
decreases-local_by_all l = length l.members.now
