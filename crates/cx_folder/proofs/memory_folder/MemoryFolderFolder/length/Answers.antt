use Rattle.cx_folder.specs.Memory.{view_in}
use Rattle.cx_folder.proofs.TreeLaws.{reads_still}
use Rattle.cx_folder.proofs.MemoryLaws.{tended_still}
use Rattle.cx_folder.proofs.memory_folder.MemoryFolderFolder.length.Goals as goal

pub returns-clause-reads_on : goal.returns-clause-reads_on
returns-clause-reads_on c = λ t. reads_still (view_in c.args.self.now)

pub returns-clause-tended : goal.returns-clause-tended
returns-clause-tended c = λ t. tended_still (view_in c.args.self.now)
