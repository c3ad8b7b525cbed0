use Rattle.std.proofs.Common.{refl, length}
use Rattle.cx_disk.specs.Disk.{Holds, Torn}
use Rattle.cx_disk.specs.MemoryLaws.{holds_torn, torn_same}
use Rattle.cx_folder.specs.Tree.{ChangesBytes, Passes, IsChanged}
use Rattle.cx_folder.specs.Memory.{seen_in, view_in, wrote}
use Rattle.cx_folder.proofs.MemoryLaws.{passes_in, passes_still, changes_in, changes_still, changed_in, changed_still, on_noted, on_wanting, on_either}
use Rattle.cx_folder.proofs.memory_folder.MemoryFolderFolder.write.Goals as goal

pub returns-clause-written : goal.returns-clause-written
returns-clause-written c = λ t.
    let old = c.args.self.now in
    let path = c.args.file.now in
    let whole = Holds c.args.at c.args.bytes.now in
    let event = wrote path c.args.at c.args.bytes.now old in
    on_noted (λ es. ChangesBytes whole path (seen_in old) (seen_in es)) event old
    c.note_write.new.self c.note_write.result c.note_write.ensures
    (changes_in event old whole (λ p. refl) refl refl)

pub returns-clause-stopped : goal.returns-clause-stopped
returns-clause-stopped c = λ t.
    let old = c.args.self.now in
    let path = c.args.file.now in
    let count = length c.args.bytes.now in
    let step = Torn c.args.at count in
    on_wanting (λ es. ChangesBytes step path (seen_in old) (seen_in es))
    (wrote path c.args.at c.args.bytes.now old) old c.note_write.new.self c.note_write.result
    c.note_write.ensures (changes_still step path (seen_in old) (torn_same c.args.at count))

pub returns-clause-after : goal.returns-clause-after
returns-clause-after c = λ t.
    let old = c.args.self.now in
    let path = c.args.file.now in
    let count = length c.args.bytes.now in
    let step = Torn c.args.at count in
    let event = wrote path c.args.at c.args.bytes.now old in
    on_either (λ es. Passes (ChangesBytes step path) (view_in old) (view_in es)) event old
    c.note_write.new.self c.note_write.result c.note_write.ensures
    (passes_in event old (ChangesBytes step path) (λ b t left. left)
    (changes_in event old step (λ p. refl) refl
    (holds_torn c.args.at c.args.bytes.now (seen_in old path).bytes)))
    (passes_still (ChangesBytes step path) (view_in old)
    (λ t. changes_still step path t (torn_same c.args.at count)))

pub returns-clause-changed : goal.returns-clause-changed
returns-clause-changed c = λ t.
    let old = c.args.self.now in
    let path = c.args.file.now in
    let event = wrote path c.args.at c.args.bytes.now old in
    on_either (λ es. IsChanged path (view_in old) (view_in es)) event old c.note_write.new.self
    c.note_write.result c.note_write.ensures (changed_in event old (λ p. refl) refl)
    (changed_still path (view_in old))
