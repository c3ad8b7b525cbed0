use Rattle.std.proofs.Common.{refl}
use Rattle.cx_disk.specs.Disk.{Front, CutShort}
use Rattle.cx_disk.specs.MemoryLaws.{front_cut, cut_same}
use Rattle.cx_folder.specs.Tree.{ChangesBytes, Passes, IsChanged}
use Rattle.cx_folder.specs.Memory.{seen_in, view_in, cut}
use Rattle.cx_folder.proofs.MemoryLaws.{passes_in, passes_still, changes_in, changes_still, changed_in, changed_still, on_noted, on_wanting, on_either}
use Rattle.cx_folder.proofs.memory_folder.MemoryFolderFolder.cut.Goals as goal

pub returns-clause-cut : goal.returns-clause-cut
returns-clause-cut c = λ t.
    let old = c.args.self.now in
    let path = c.args.file.now in
    let whole = Front c.args.to in
    let event = cut path c.args.to old in
    on_noted (λ es. ChangesBytes whole path (seen_in old) (seen_in es)) event old
    c.note_cut.new.self c.note_cut.result c.note_cut.ensures
    (changes_in event old whole (λ p. refl) refl refl)

pub returns-clause-stopped : goal.returns-clause-stopped
returns-clause-stopped c = λ t.
    let old = c.args.self.now in
    let path = c.args.file.now in
    let step = CutShort c.args.to in
    on_wanting (λ es. ChangesBytes step path (seen_in old) (seen_in es)) (cut path c.args.to old)
    old c.note_cut.new.self c.note_cut.result c.note_cut.ensures
    (changes_still step path (seen_in old) (cut_same c.args.to))

pub returns-clause-after : goal.returns-clause-after
returns-clause-after c = λ t.
    let old = c.args.self.now in
    let path = c.args.file.now in
    let step = CutShort c.args.to in
    let event = cut path c.args.to old in
    on_either (λ es. Passes (ChangesBytes step path) (view_in old) (view_in es)) event old
    c.note_cut.new.self c.note_cut.result c.note_cut.ensures
    (passes_in event old (ChangesBytes step path) (λ b t left. left)
    (changes_in event old step (λ p. refl) refl (front_cut c.args.to (seen_in old path).bytes)))
    (passes_still (ChangesBytes step path) (view_in old)
    (λ t. changes_still step path t (cut_same c.args.to)))

pub returns-clause-changed : goal.returns-clause-changed
returns-clause-changed c = λ t.
    let old = c.args.self.now in
    let path = c.args.file.now in
    let event = cut path c.args.to old in
    on_either (λ es. IsChanged path (view_in old) (view_in es)) event old c.note_cut.new.self
    c.note_cut.result c.note_cut.ensures (changed_in event old (λ p. refl) refl)
    (changed_still path (view_in old))
