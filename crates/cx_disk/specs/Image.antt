-- One of the images that a crash may leave of a disk in memory, made change by change.
use Rattle.std.specs.Prelude.{ℕ, ◌+◌, ◌≡◌, List, [], ◌∷◌, ◌++◌, length, take, drop, nat_eq, if◌then◌else◌}
use Rattle.cx_disk.specs.Disk.{Files, SameFiles, Changes, Torn, CutShort, View}
use Rattle.cx_disk.specs.Memory.{History, fresh, file_of, changed, after_note, replay, view_of}
use Rattle.cx_disk.specs.declared.note.Change.{Change}
use Rattle.cx_disk.specs.declared.note.Change.TheVariants.{Wrote, Cut, Synced, StoppedWrite, StoppedCut}
use Rattle.cx_disk.specs.declared.note.Note.{Note}

-- ---- one change

-- what a crash may leave of one file by a change that isn't settled
abbrev pub Leaves : Change → List ℕ → List ℕ → Type 0
Leaves (Wrote at bytes) = Torn at (length bytes)
Leaves (Cut to) = CutShort to
Leaves Synced = λ old new. new ≡ old
Leaves (StoppedWrite at bytes) = Torn at (length bytes)
Leaves (StoppedCut to) = CutShort to

-- one file after a change, though it was stopped
abbrev pub whole : Change → List ℕ → List ℕ
whole (Wrote at bytes) old = take at old ++ bytes ++ drop (at + length bytes) old
whole (Cut to) old = take to old
whole Synced old = old
whole (StoppedWrite at bytes) old = take at old ++ bytes ++ drop (at + length bytes) old
whole (StoppedCut to) old = take to old

-- what is left of it by a choice: 0 leaves nothing of the change, and 1 all of it
pub record IsPart (choice : ℕ) (change : Change) (old new : List ℕ) : Type 0 where
  pub nothing : choice ≡ 0 → new ≡ old
  pub all : choice ≡ 1 → new ≡ whole change old
  pub some : Leaves change old new

-- ---- changes of files

-- one file has these bytes, and each other what it had
abbrev pub HasFile : ℕ → List ℕ → Files → Files → Type 0
HasFile file bytes old new = (g : ℕ) → new g ≡ (if nat_eq g file then bytes else old g)

-- a change of the files, whole
abbrev pub Redoes : Note → Files → Files → Type 0
Redoes note old new = HasFile note.file (changed note.change (old note.file)) old new

-- a change of the files, left in part by a choice
abbrev pub Tears : ℕ → Note → Files → Files → Type 0
Tears choice note old new = Changes (IsPart choice note.change) note.file old new

-- After a change of files that read so, an image by a choice: a sync leaves its file as it reads,
-- and the others as they were; any other change is left in part.
abbrev pub chosen_by : ℕ → Change → ℕ → Files → (Files → Type 0) → Files → Type 0
chosen_by choice Synced file seen images image =
    (before : Files) × images before × HasFile file (seen file) before image
chosen_by choice (Wrote at bytes) file seen images image =
    (before : Files) × images before × Changes (IsPart choice (Wrote at bytes)) file before image
chosen_by choice (Cut to) file seen images image =
    (before : Files) × images before × Changes (IsPart choice (Cut to)) file before image
chosen_by choice (StoppedWrite at bytes) file seen images image =
    (before : Files) × images before
    × Changes (IsPart choice (StoppedWrite at bytes)) file before image
chosen_by choice (StoppedCut to) file seen images image =
    (before : Files) × images before × Changes (IsPart choice (StoppedCut to)) file before image

-- after all these changes, of files that read so and have these images
abbrev pub chosen_from : ℕ → Files → (Files → Type 0) → List Note → Files → Type 0
chosen_from choice seen images [] = images
chosen_from choice seen images (note ∷ notes) =
    chosen_from choice (after_note note seen) (chosen_by choice note.change note.file seen images)
    notes

-- The images by a choice: what came since the last sync of each file is left in part.
abbrev pub IsChosen : ℕ → Files → List Note → Files → Type 0
IsChosen choice first notes = chosen_from choice first (SameFiles first) notes

-- ---- made change by change

-- after these changes: the files as they read, and an image by a choice
pub record IsImageAfter (choice : ℕ) (first : Files) (notes : List Note)
    (files image : Files) : Type 0 where
  pub exact : SameFiles (replay first notes) files
  pub chosen : IsChosen choice first notes image

-- one change more
abbrev pub Follows : ℕ → Note → Files → Files → Files → Files → Type 0
Follows choice note old_files old_image files image = (first : Files) (notes : List Note)
    → IsImageAfter choice first notes old_files old_image
    → IsImageAfter choice first (notes ++ note ∷ []) files image

-- the same of lists of files
abbrev pub FollowsIn : ℕ → Note → List (List ℕ) → List (List ℕ) → List (List ℕ) → List (List ℕ)
    → Type 0
FollowsIn choice note old_files old_image files image =
    Follows choice note (file_of old_files) (file_of old_image) (file_of files) (file_of image)

-- files by a choice after these changes of others
abbrev pub IsLeft : ℕ → List (List ℕ) → List Note → List (List ℕ) → Type 0
IsLeft choice first notes image = IsChosen choice (file_of first) notes (file_of image)

-- ---- a disk of an image

-- a disk that isn't mounted, whose files are one of the images that a crash may leave of another
pub record IsImageOf (v : View) (disk : History) : Type 0 where
  pub unmounted : disk ≡ fresh disk.first
  pub left : v.images (view_of disk).seen

-- and which of them a choice gives
abbrev pub IsChosenOf : ℕ → History → History → Type 0
IsChosenOf choice old disk = IsChosen choice (file_of old.first) old.notes (view_of disk).seen
