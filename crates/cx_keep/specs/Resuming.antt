-- The end of a start with a checkpoint: the outputs are cut to what it records.
use Rattle.std.specs.Prelude.{ℕ, ◌<◌, ◌≤◌, ◌≡◌, List, [], length, take, slice_index, Some}
use Rattle.cx_disk.specs.Disk.{Files, View, CutShort, LeavesOnly, IsSettled}
use Rattle.cx_chk.specs.declared.checkpoint.Checkpoint.{Checkpoint}
use Rattle.cx_disk.specs.Files.{slot_count, old_output_file}
use Rattle.cx_chk.specs.Slots.{SlotsSettled, IsOrShut}
use Rattle.cx_keep.specs.Trails.{Course, Has, IsTrail, NewestIs, OutputsReach, text_of, former_length, length_in, file_of_output, with_key}

-- an image from before, where each of the first outputs may be cut, in part or whole
pub record IsCutTo (lengths : List ℕ) (count : ℕ) (old : View) (c : Files) : Type 0 where
  pub image : Files
  pub was : old.images image
  pub slots : (slot : ℕ) → slot < slot_count → c slot ≡ image slot
  pub former : c old_output_file ≡ image old_output_file
  pub outputs : (j : ℕ) → j < count
      → CutShort (slice_index lengths j) (image (file_of_output j)) (c (file_of_output j))

-- the file is cut to so many bytes, and the same in all images
pub record IsTrimmed (count file : ℕ) (old new : View) : Type 0 where
  pub cut : new.seen file ≡ take count (old.seen file)
  pub settled : (c : Files) → new.images c → c file ≡ new.seen file

-- each output has at least so many bytes
abbrev pub AreLong : List ℕ → Files → Type 0
AreLong lengths files = (j : ℕ) → j < length lengths
    → slice_index lengths j ≤ length (files (file_of_output j))

-- calls that cut each output: what a crash leaves after them and at each moment, and what they have
-- done
abbrev pub CutsOutputs : List ℕ → View → View → Type 0
CutsOutputs lengths old new = (c : Files) → new.images c → IsCutTo lengths (length lengths) old c

abbrev pub LeavesCut : List ℕ → View → View → Type 0
LeavesCut lengths old new = LeavesOnly old new (IsCutTo lengths (length lengths) old)

abbrev pub AreCut : List ℕ → View → View → Type 0
AreCut lengths old new = (j : ℕ) → j < length lengths
    → IsTrimmed (slice_index lengths j) (file_of_output j) old new

-- each file before the outputs has the bytes that it had: the slots and the former output
abbrev pub EarlierSame : Files → Files → Type 0
EarlierSame old new = (file : ℕ) → file < file_of_output 0 → new file ≡ old file

-- an image from before with its slots, where none of so many outputs is longer
pub record IsWithinEmptying (count : ℕ) (old : View) (c : Files) : Type 0 where
  pub image : Files
  pub was : old.images image
  pub slots : (slot : ℕ) → slot < slot_count → c slot ≡ image slot
  pub shorter : (j : ℕ) → j < count
      → length (c (file_of_output j)) ≤ length (image (file_of_output j))

-- each slot is the same in all images, and so is each of so many outputs, which is empty; and so is
-- the former output
pub record AreEmptied (count : ℕ) (new : View) : Type 0 where
  pub slots : SlotsSettled new
  pub outputs : (j : ℕ) → j < count → new.seen (file_of_output j) ≡ []
  pub settled : (j : ℕ) → j < count → IsSettled new (file_of_output j)
  pub former : new.seen old_output_file ≡ []

-- each slot has the bytes that it had
abbrev pub SlotsSame : Files → Files → Type 0
SlotsSame old new = (slot : ℕ) → slot < slot_count → new slot ≡ old slot

-- each slot has the bytes that it had, but that an open one of version 2 may be closed
abbrev pub SlotsKept : Files → Files → Type 0
SlotsKept old new = (slot : ℕ) → slot < slot_count → IsOrShut (old slot) (new slot)

-- each image is a trail
abbrev pub AreTrails : Course → View → Type 0
AreTrails course v = (c : Files) → v.images c → IsTrail course c

-- a later checkpoint of a run records no shorter outputs
abbrev pub IsMonotone : Course → Type 0
IsMonotone course = (a b : Checkpoint) → Has course.checkpoints a → Has course.checkpoints b
    → a.iteration ≤ b.iteration → (j : ℕ) → j < length course.outputs
    → length_in a j ≤ length_in b j

-- each checkpoint of a run is of version 2 and has a length for each output; and so much of each
-- output, and of all of them together, is there
pub record RecordsFronts (course : Course) : Type 0 where
  pub version : (c : Checkpoint) → Has course.checkpoints c → c.version ≡ 2
  pub counts : (c : Checkpoint) → Has course.checkpoints c
      → length c.lengths ≡ length course.outputs
  pub within : (c : Checkpoint) (j : ℕ) → Has course.checkpoints c → j < length course.outputs
      → length_in c j ≤ length (text_of course j)
  pub former : (c : Checkpoint) → Has course.checkpoints c → former_length c ≤ length course.former

-- an image with the slots of one from before, no longer outputs, and a trail
pub record IsTrailFrom (course : Course) (old : View) (c : Files) : Type 0 where
  pub image : Files
  pub was : old.images image
  pub slots : (slot : ℕ) → slot < slot_count → c slot ≡ image slot
  pub shorter : (j : ℕ) → j < length course.outputs
      → length (c (file_of_output j)) ≤ length (image (file_of_output j))
  pub trail : IsTrail course c

-- the newest open slot reads as this checkpoint, which under the run's key is one of the run, and
-- the outputs reach it
pub record IsResumed (course : Course) (chk : Checkpoint) (v : View) : Type 0 where
  pub key : List ℕ
  pub of_run : Has course.checkpoints (with_key key chk)
  pub newest : NewestIs v.seen (Some chk.iteration)
  pub reach : OutputsReach course chk v.seen

-- a run that a disk can go on with from this checkpoint
pub record CanResume (course : Course) (chk : Checkpoint) (old : View) : Type 0 where
  pub monotone : IsMonotone course
  pub counts : length chk.lengths ≡ length course.outputs
  pub trails : AreTrails course old
  pub resumed : IsResumed course chk old

-- at each moment each image is a trail, of any run that can go on from this checkpoint
abbrev pub ResumeMoments : Checkpoint → View → View → Type 0
ResumeMoments chk old new = (course : Course) → CanResume course chk old
    → LeavesOnly old new (IsTrailFrom course old)
