use Rattle.std.proofs.Common.{◌≡◌, false, refl, subst}
use Rattle.cx_folder.specs.Names.{Path}
use Rattle.cx_folder.specs.Tree.{ReadsOn, IsEntered, OthersDoubted}
use Rattle.cx_folder.specs.Memory.{view_in, synced_folder, IsNoted}
use Rattle.cx_folder.proofs.TreeLaws.{reads_still}
use Rattle.cx_folder.proofs.MemoryLaws.{entered_in, reads_in_folder, doubted_in, doubted_still, on_noted, on_either}
use Rattle.cx_folder.proofs.memory_folder.MemoryFolderFolder.sync_folder.Goals as goal

pub returns-clause-settled : goal.returns-clause-settled
returns-clause-settled c = λ t.
    let old = c.args.self.now in
    let folder = c.args.folder.now in
    let noted : IsNoted (synced_folder folder) old c.note_folder.new.self c.note_folder.result =
    subst (λ (f : Path). IsNoted (synced_folder f) old c.note_folder.new.self c.note_folder.result)
    c.as_bytes.ensures.value c.note_folder.ensures in
    on_noted (λ es. (view_in old).doubted folder ≡ false
    → IsEntered folder (view_in es) × ((view_in es).doubted folder ≡ false))
    (synced_folder folder) old c.note_folder.new.self c.note_folder.result noted
    (λ trusted. (entered_in folder old, refl))

pub returns-clause-reads_on : goal.returns-clause-reads_on
returns-clause-reads_on c = λ t.
    let old = c.args.self.now in
    let folder = c.args.folder.now in
    let noted : IsNoted (synced_folder folder) old c.note_folder.new.self c.note_folder.result =
    subst (λ (f : Path). IsNoted (synced_folder f) old c.note_folder.new.self c.note_folder.result)
    c.as_bytes.ensures.value c.note_folder.ensures in
    on_either (λ es. ReadsOn (view_in old) (view_in es)) (synced_folder folder) old
    c.note_folder.new.self c.note_folder.result noted (reads_in_folder folder old)
    (reads_still (view_in old))

pub returns-clause-others : goal.returns-clause-others
returns-clause-others c = λ t.
    let old = c.args.self.now in
    let folder = c.args.folder.now in
    let noted : IsNoted (synced_folder folder) old c.note_folder.new.self c.note_folder.result =
    subst (λ (f : Path). IsNoted (synced_folder f) old c.note_folder.new.self c.note_folder.result)
    c.as_bytes.ensures.value c.note_folder.ensures in
    on_either (λ es. OthersDoubted folder (view_in old) (view_in es)) (synced_folder folder) old
    c.note_folder.new.self c.note_folder.result noted (doubted_in folder old)
    (doubted_still folder (view_in old))
