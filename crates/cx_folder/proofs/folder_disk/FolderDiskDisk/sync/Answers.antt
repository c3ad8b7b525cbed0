use Rattle.cx_folder.proofs.PlacedLaws.{settled_known}
use Rattle.cx_folder.proofs.folder_disk.FolderDiskDisk.sync.Goals as goal

pub returns-clause-settled : goal.returns-clause-settled
returns-clause-settled g c = λ t. settled_known c.in-Some.places c.self.inside.places
    (g.F.Folder.view c.sync-done.new.self.folder) c.args.file c.sync-done.result c.counted.result
    c.in-Some.is c.counted.ensures.same (c.sync-done.ensures.as_read t)
