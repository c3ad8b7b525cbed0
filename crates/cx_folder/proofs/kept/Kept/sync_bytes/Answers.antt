use Rattle.cx_folder.specs.PulledLaws.{pulled_sound}
use Rattle.cx_folder.proofs.TreeLaws.{stays_more}
use Rattle.cx_folder.proofs.kept.Kept.sync_bytes.Goals as goal

pub returns-then-branch-clause-stays : goal.returns-then-branch-clause-stays
returns-then-branch-clause-stays g c = λ t. stays_more c.args.places.now
    (pulled_sound c.args.places.now (g.F.Folder.view c.args.self.now.folder)
    (g.met.F.Folder.sound c.args.self.now.folder t)) (c.open.ensures.stays t)
    (c.sync_open.ensures.stays t)
