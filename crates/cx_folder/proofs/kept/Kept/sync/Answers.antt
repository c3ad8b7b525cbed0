use Rattle.cx_folder.specs.PulledLaws.{pulled_sound}
use Rattle.cx_folder.proofs.TreeLaws.{stays_reads, stays_more}
use Rattle.cx_folder.proofs.KeptLaws.{settled_both}
use Rattle.cx_folder.proofs.kept.Kept.sync.Goals as goal

pub returns-clause-stays : goal.returns-clause-stays
returns-clause-stays g c = λ t. stays_more c.args.places.now
    (pulled_sound c.args.places.now (g.F.Folder.view c.args.self.now.folder)
    (g.met.F.Folder.sound c.args.self.now.folder t)) (c.sync_bytes.ensures.stays t)
    (stays_reads c.args.places.now (c.sync_entries.ensures.reads_on t))

pub returns-clause-as_read : goal.returns-clause-as_read
returns-clause-as_read g c = λ t. settled_both c.args.places.now c.args.file c.sync_entries.result
    c.requires.file (c.in_ok-sync_bytes.ensures.bytes t) (c.sync_entries.ensures.reads_on t)
    (c.sync_entries.ensures.entered t)
