use Rattle.cx_folder.specs.PulledLaws.{pulled_sound}
use Rattle.cx_folder.proofs.TreeLaws.{stays_more}
use Rattle.cx_folder.proofs.kept.Kept.open_or_make.Goals as goal

pub returns-else-branch-clause-stays : goal.returns-else-branch-clause-stays
returns-else-branch-clause-stays g c = λ t. stays_more c.args.places.now
    (pulled_sound c.args.places.now (g.F.Folder.view c.args.self.now.folder)
    (g.met.F.Folder.sound c.args.self.now.folder t)) (c.open.ensures.stays t)
    (c.make.ensures.stays t)
