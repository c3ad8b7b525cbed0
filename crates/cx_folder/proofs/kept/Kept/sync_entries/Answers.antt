use Rattle.cx_folder.proofs.TreeLaws.{reads_still}
use Rattle.cx_folder.proofs.KeptLaws.{entered_of}
use Rattle.cx_folder.proofs.kept.Kept.sync_entries.Goals as goal

pub returns-in-Settled-clause-reads_on : goal.returns-in-Settled-clause-reads_on
returns-in-Settled-clause-reads_on g c = λ t. reads_still (g.F.Folder.view c.args.self.now.folder)

pub returns-in-Settled-clause-entered : goal.returns-in-Settled-clause-entered
returns-in-Settled-clause-entered g c = λ t. entered_of c.requires.ready c.in-Settled.is t

pub returns-in-Doubted-clause-reads_on : goal.returns-in-Doubted-clause-reads_on
returns-in-Doubted-clause-reads_on g c = λ t. reads_still (g.F.Folder.view c.args.self.now.folder)
