use Rattle.std.proofs.Common.{◌≢◌, refl}
use Rattle.cx_folder.specs.declared.care.Care.{Care}
use Rattle.cx_folder.specs.Tree.{ReadsOn, OthersTended, IsSettled}
use Rattle.cx_folder.specs.Memory.{view_in, synced}
use Rattle.cx_folder.proofs.TreeLaws.{reads_still}
use Rattle.cx_folder.proofs.MemoryLaws.{settled_in, reads_synced, others_in, others_still, on_noted, on_either}
use Rattle.cx_folder.proofs.memory_folder.MemoryFolderFolder.sync.Goals as goal

pub returns-clause-settled : goal.returns-clause-settled
returns-clause-settled c = λ t.
    let old = c.args.self.now in
    let path = c.args.file.now in
    on_noted (λ es. (view_in old).care path ≢ Care.Doubtful → IsSettled path (view_in es))
    (synced path old) old c.note_sync.new.self
    c.note_sync.result c.note_sync.ensures (λ trusted. settled_in path old)

pub returns-clause-reads_on : goal.returns-clause-reads_on
returns-clause-reads_on c = λ t.
    let old = c.args.self.now in
    let path = c.args.file.now in
    on_either (λ es. ReadsOn (view_in old) (view_in es)) (synced path old) old c.note_sync.new.self
    c.note_sync.result c.note_sync.ensures (reads_synced path old) (reads_still (view_in old))

pub returns-clause-others : goal.returns-clause-others
returns-clause-others c = λ t.
    let old = c.args.self.now in
    let path = c.args.file.now in
    on_either (λ es. OthersTended path (view_in old) (view_in es)) (synced path old) old
    c.note_sync.new.self c.note_sync.result c.note_sync.ensures
    (others_in (synced path old) old (λ p. refl)) (others_still path (view_in old))
