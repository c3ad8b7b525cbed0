-- A disk in memory, which notes each change, so that what a crash may leave at each moment can be
-- told.
use Rattle.std.specs.Prelude.{ℕ, ◌+◌, ◌≤◌, ◌≡◌, nat_eq, List, [], ◌∷◌, ◌++◌, length, take, drop, slice_index_or, if◌then◌else◌, Bool, true, false, Result, Ok, Err}
use Rattle.cx_disk.specs.Disk.{Folders, no_folders, Files, SameFiles, Changes, Torn, CutShort, View}
use Rattle.cx_disk.specs.declared.disk.DiskFault.{DiskFault}
use Rattle.cx_disk.specs.declared.disk.DiskFault.TheVariants.{Memory}
use Rattle.cx_disk.specs.declared.note.Change.{Change}
use Rattle.cx_disk.specs.declared.note.Change.TheVariants.{Wrote, Cut, Synced, StoppedWrite, StoppedCut}
use Rattle.cx_disk.specs.declared.note.Note.{Note}

-- Whether the disk is mounted, and on which folders, its files at the beginning, the first being
-- file 0, and each change since then.
pub record History : Type 0 where
  pub mounted : Bool
  pub folders : Folders
  pub first : List (List ℕ)
  pub notes : List Note

-- A disk of these files, which isn't mounted and hasn't been changed.
abbrev pub fresh : List (List ℕ) → History
fresh files = record { mounted = false; folders = no_folders; first = files; notes = [] }

-- The same disk after one change more.
abbrev pub noted : History → Note → History
noted disk note = record disk { notes = disk.notes ++ note ∷ [] }

-- A write, a cut and a sync, done whole.
abbrev pub whole_write : ℕ → ℕ → List ℕ → Note
whole_write file at bytes = record { file = file; change = Wrote at bytes }

abbrev pub whole_cut : ℕ → ℕ → Note
whole_cut file to = record { file = file; change = Cut to }

abbrev pub synced : ℕ → Note
synced file = record { file = file; change = Synced }

-- A write and a cut that were stopped.
abbrev pub stopped_write : ℕ → ℕ → List ℕ → Note
stopped_write file at bytes = record { file = file; change = StoppedWrite at bytes }

abbrev pub stopped_cut : ℕ → ℕ → Note
stopped_cut file to = record { file = file; change = StoppedCut to }

-- ---- what calls do

-- A call that changes a file is noted, and nothing else. Where memory is wanting for that, nothing
-- has changed.
abbrev pub Notes : {T : Type 0} → Note → History → History → Result T DiskFault → Type 0
Notes note old new (Ok _) = new ≡ noted old note
Notes note old new (Err fault) = (fault ≡ Memory) × (new ≡ old)

-- A call that looks changes nothing, and never fails.
abbrev pub Looks : {T : Type 0} → History → History → Result T DiskFault → Type 0
Looks old new (Ok _) = new ≡ old
Looks old new (Err fault) = ⊥

-- A mount names the folders. Where memory is wanting for their names, nothing has changed.
abbrev pub Mounts : {T : Type 0} → List ℕ → List (List ℕ) → List ℕ → History → History
    → Result T DiskFault → Type 0
Mounts output names checkpoints old new (Ok _) =
    new ≡ record old {
      mounted = true;
      folders = record { output = output; names = names; checkpoints = checkpoints };
    }
Mounts output names checkpoints old new (Err fault) = (fault ≡ Memory) × (new ≡ old)

-- ---- files

-- A file of a list of files. One that isn't there is empty.
abbrev pub file_of : List (List ℕ) → Files
file_of files file = slice_index_or files file []

-- ---- how the files read

abbrev pub changed : Change → List ℕ → List ℕ
changed (Wrote at bytes) old = take at old ++ bytes ++ drop (at + length bytes) old
changed (Cut to) old = take to old
changed Synced old = old
changed (StoppedWrite at bytes) old = old
changed (StoppedCut to) old = old

abbrev pub after_note : Note → Files → Files
after_note note files file = if nat_eq file note.file then changed note.change (files file)
    else files file

-- the files after all these changes
abbrev pub replay : Files → List Note → Files
replay files [] = files
replay files (note ∷ notes) = replay (after_note note files) notes

abbrev pub reading : History → Files
reading disk = replay (file_of disk.first) disk.notes

-- ---- what a crash may leave

-- After a change: an image from before it, with the change whole or in part. After a sync: those
-- images from before it in which the file is as it reads.
abbrev pub left_by : Change → ℕ → Files → (Files → Type 0) → Files → Type 0
left_by (Wrote at bytes) file seen images image =
    (before : Files) × images before × Changes (Torn at (length bytes)) file before image
left_by (Cut to) file seen images image =
    (before : Files) × images before × Changes (CutShort to) file before image
left_by Synced file seen images image = images image × (image file ≡ seen file)
left_by (StoppedWrite at bytes) file seen images image =
    (before : Files) × images before × Changes (Torn at (length bytes)) file before image
left_by (StoppedCut to) file seen images image =
    (before : Files) × images before × Changes (CutShort to) file before image

-- after all these changes, of files that read so and have these images
abbrev pub images_from : Files → (Files → Type 0) → List Note → Files → Type 0
images_from seen images [] = images
images_from seen images (note ∷ notes) =
    images_from (after_note note seen) (left_by note.change note.file seen images) notes

-- At the beginning a crash leaves the files as they are.
abbrev pub images_at : Files → List Note → Files → Type 0
images_at first notes = images_from first (SameFiles first) notes

-- The moment is the number of changes.
abbrev pub view_at : Files → List Note → View
view_at first notes = record {
  seen = replay first notes;
  images = images_at first notes;
  moment = length notes;
  left_since = λ since image. (moment : ℕ) × (since ≤ moment) × (moment ≤ length notes)
      × images_at first (take moment notes) image;
}

abbrev pub view_of : History → View
view_of disk = view_at (file_of disk.first) disk.notes

-- ---- the files that the disk keeps

-- Once it is mounted, it keeps its files as they read, and until then nothing has changed.
pub record IsKept (mounted : Bool) (first files : List (List ℕ)) (notes : List Note) : Type 0 where
  pub unchanged : mounted ≡ false → notes ≡ []
  pub kept : mounted ≡ true → SameFiles (replay (file_of first) notes) (file_of files)
