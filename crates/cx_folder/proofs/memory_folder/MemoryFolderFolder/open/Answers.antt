use Rattle.cx_folder.specs.Memory.{view_in}
use Rattle.cx_folder.proofs.TreeLaws.{reads_still}
use Rattle.cx_folder.proofs.MemoryLaws.{opened_still}
use Rattle.cx_folder.proofs.memory_folder.MemoryFolderFolder.open.Goals as goal

pub returns-clause-reads_on : goal.returns-clause-reads_on
returns-clause-reads_on c = λ t. reads_still (view_in c.args.self.now)

pub returns-clause-opened : goal.returns-clause-opened
returns-clause-opened c = λ t. opened_still c.args.path.now (view_in c.args.self.now)
