use Rattle.std.proofs.Common.{length}
use Rattle.cx_several.proofs.folders.+same_folder.Given as goal

abbrev pub decreases-same_folder : goal.decreases-same_folder
decreases-same_folder l = length l.files.now
