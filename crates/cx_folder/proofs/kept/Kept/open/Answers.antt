use Rattle.cx_folder.proofs.TreeLaws.{stays_still}
use Rattle.cx_folder.proofs.kept.Kept.open.Goals as goal

pub returns-in-Open-clause-stays : goal.returns-in-Open-clause-stays
returns-in-Open-clause-stays g c = λ t. stays_still c.args.places.now
    (g.F.Folder.view c.args.self.now.folder)

pub returns-in-Lost-clause-stays : goal.returns-in-Lost-clause-stays
returns-in-Lost-clause-stays g c = λ t. stays_still c.args.places.now
    (g.F.Folder.view c.args.self.now.folder)
