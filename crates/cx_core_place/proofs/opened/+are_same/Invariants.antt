use Rattle.std.proofs.Common.{length}
use Rattle.cx_core_place.proofs.opened.+are_same.Given as goal

abbrev pub decreases-are_same : goal.decreases-are_same
decreases-are_same l = length l.mine.now
