use Rattle.cx_folder.proofs.TreeLaws.{stays_still}
use Rattle.cx_folder.proofs.folder_disk.FolderDisk.mount_known.Goals as goal

pub returns-then-not-are-clause-stays : goal.returns-then-not-are-clause-stays
returns-then-not-are-clause-stays g c = λ t. stays_still c.args.self.now.folders
    (g.F.Folder.view c.args.self.now.folder)
