use Rattle.cx_folder.proofs.TreeLaws.{stays_still}
use Rattle.cx_folder.proofs.folder_disk.FolderDisk.mount_once.Goals as goal

pub returns-then-self-clause-alike : goal.returns-then-self-clause-alike
returns-then-self-clause-alike g c = λ t. stays_still c.args.self.now.folders
    (g.F.Folder.view c.args.self.now.folder)
