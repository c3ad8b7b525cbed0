use Rattle.std.proofs.Common.{length}
use Rattle.cx_several.proofs.folders.+shared_with.Given as goal

abbrev pub decreases-shared_with : goal.decreases-shared_with
decreases-shared_with l = length l.files.now
