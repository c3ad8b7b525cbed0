-- A start from a checkpoint of version 1: the slots of version 2 are closed, and then each output
-- is made anew from the former output.
use Rattle.std.specs.Prelude.{ℕ, ◌<◌, ◌≤◌, ◌≡◌, max, false, List, [], ◌∷◌, length, map, take, slice_index_or, Option, Some}
use Rattle.cx_disk.specs.Disk.{Files, View, LeavesOnly}
use Rattle.cx_chk.specs.declared.checkpoint.Checkpoint.{Checkpoint}
use Rattle.cx_disk.specs.Files.{slot_count, old_output_file}
use Rattle.cx_chk.specs.Slots.{header_of, is_second}
use Rattle.cx_keep.specs.Trails.{Course, Has, text_of, length_in, former_length, file_of_output}

-- an image from before, where each output may be anything that is no longer than it was or than it
-- is to be
pub record IsWithinRenewal (texts : List (List ℕ)) (old : View) (c : Files) : Type 0 where
  pub image : Files
  pub was : old.images image
  pub slots : (slot : ℕ) → slot < slot_count → c slot ≡ image slot
  pub former : c old_output_file ≡ image old_output_file
  pub outputs : (j : ℕ) → j < length texts
      → length (c (file_of_output j))
      ≤ max (length (image (file_of_output j))) (length (slice_index_or texts j []))

-- an output is this text, in all images
pub record IsRenewed (text : List ℕ) (file : ℕ) (new : View) : Type 0 where
  pub reads : new.seen file ≡ text
  pub settled : (c : Files) → new.images c → c file ≡ new.seen file

abbrev pub AreRenewed : List (List ℕ) → View → Type 0
AreRenewed texts new = (j : ℕ) → j < length texts
    → IsRenewed (slice_index_or texts j []) (file_of_output j) new

abbrev pub RenewsOutputs : List (List ℕ) → View → View → Type 0
RenewsOutputs texts old new = (c : Files) → new.images c → IsWithinRenewal texts old c

abbrev pub LeavesRenewal : List (List ℕ) → View → View → Type 0
LeavesRenewal texts old new = LeavesOnly old new (IsWithinRenewal texts old)

-- the newest checkpoint that is read is this one of the run, a slot of version 1 has it, and these
-- texts are the outputs there
pub record CanRenew (course : Course) (chk : Checkpoint) (texts : List (List ℕ))
    (v : View) : Type 0 where
  pub of_run : Has course.checkpoints chk
  pub slot : ℕ
  pub known : slot < slot_count
  pub header : header_of (v.seen slot) ≡ Some chk.iteration
  pub first : is_second (v.seen slot) ≡ false
  pub greatest : (other m : ℕ) → other < slot_count → header_of (v.seen other) ≡ Some m
      → m ≤ chk.iteration
  pub counts : length texts ≡ length course.outputs
  pub texts_are : (j : ℕ) → j < length course.outputs
      → slice_index_or texts j [] ≡ take (length_in chk j) (text_of course j)
  pub long : (j : ℕ) → j < length course.outputs → length_in chk j ≤ length (text_of course j)

-- ---- what a former output splits into

-- the front of each output as a checkpoint records it
abbrev pub fronts_in : List ℕ → List (List ℕ) → List (List ℕ)
fronts_in [] texts = []
fronts_in (n ∷ ns) [] = []
fronts_in (n ∷ ns) (t ∷ ts) = take n t ∷ fronts_in ns ts

abbrev pub fronts_at : Course → Checkpoint → List (List ℕ)
fronts_at course c = fronts_in c.lengths course.outputs

-- a checkpoint of version 1 as one of version 2, with these outputs
abbrev pub renewed_by : List (List ℕ) → Checkpoint → List (List ℕ) → Checkpoint
renewed_by names c texts =
    record c { version = 2; names = names; lengths = map (λ (t : List ℕ). length t) texts }

-- Each checkpoint of a run names the outputs; and so much of the former output as it records splits
-- into the fronts of the outputs.
pub record Splits (split : List ℕ → Option (List (List ℕ))) (names : List (List ℕ))
    (course : Course) : Type 0 where
  pub named : (c : Checkpoint) → Has course.checkpoints c → c.names ≡ names
  pub split_is : (c : Checkpoint) → Has course.checkpoints c
      → split (take (former_length c) course.former) ≡ Some (fronts_at course c)
