use Rattle.cx_disk.specs.declared.disk.DiskFault.TheVariants.{Failed}
use Rattle.cx_folder.proofs.CauseLaws.{cause_then}
use Rattle.cx_folder.proofs.TreeLaws.{reads_more, stays_reads}
use Rattle.cx_folder.proofs.kept.Kept.hold.Goals as goal

pub returns-in_err-hold-clause-stays : goal.returns-in_err-hold-clause-stays
returns-in_err-hold-clause-stays g c = λ t. stays_reads c.args.places.now
    (c.hold.ensures.reads_on t)

pub returns-clause-stays : goal.returns-clause-stays
returns-clause-stays g c = λ t. stays_reads c.args.places.now
    (reads_more (g.met.F.Folder.sound c.args.self.now.folder t) (c.hold.ensures.reads_on t)
    (c.hold-2.ensures.reads_on t))

pub returns-clause-cause : goal.returns-clause-cause
returns-clause-cause g c = cause_then Failed (g.F.Folder.faults c.args.self.now.folder)
    (g.F.Folder.faults c.hold.new.self) (g.F.Folder.faults c.hold-2.new.self) c.hold-2.result
    c.hold.ensures.cause.later c.hold-2.ensures.cause
