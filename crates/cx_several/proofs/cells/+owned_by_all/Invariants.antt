use Rattle.std.proofs.Common.{length}
use Rattle.cx_several.proofs.cells.+owned_by_all.Given as goal

abbrev pub decreases-owned_by_all : goal.decreases-owned_by_all
decreases-owned_by_all l = length l.members.now
