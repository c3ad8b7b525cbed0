-- When a disk's files are a trail of a run, and the fact that a keeper keeps between two calls.
use Rattle.std.specs.Prelude.{ℕ, Bool, true, false, ◌+◌, ◌^◌, ◌<◌, ◌≤◌, ◌≡◌, ◌⊎◌, List, [], ◌∷◌, ◌++◌, length, take, slice_index, slice_index_or, Option, Some, None, IfSome}
use Rattle.cx_disk.specs.Disk.{Files, View, IsSettled}
use Rattle.cx_chk.specs.declared.checkpoint.Checkpoint.{Checkpoint}
use Rattle.cx_chk.specs.Encoding.{SpellsSlot}
use Rattle.cx_disk.specs.Files.{slot_count, old_output_file, named_output_file}
use Rattle.cx_chk.specs.Slots.{header_of, is_second, SlotsSettled}
use Rattle.cx_keep.specs.Agreement.{Agree}

-- A run as far as a disk is concerned: the text of each output file, the text of all of them in the
-- run's order, as a former version wrote it, and the checkpoints, which name the output files and
-- have the length of each.
pub record Course : Type 0 where
  pub outputs : List (List ℕ)
  pub former : List ℕ
  pub checkpoints : List Checkpoint

abbrev pub Has : List Checkpoint → Checkpoint → Type 0
Has [] c = ⊥
Has (d ∷ ds) c = (c ≡ d) ⊎ Has ds c

-- the number of an output's file, its text, and its length in a checkpoint
abbrev pub file_of_output : ℕ → ℕ
file_of_output j = named_output_file j

abbrev pub text_of : Course → ℕ → List ℕ
text_of course j = slice_index_or course.outputs j []

abbrev pub length_in : Checkpoint → ℕ → ℕ
length_in c j = slice_index c.lengths j

-- a file begins with so many bytes of a text
pub record GoesAsFar (count : ℕ) (text file : List ℕ) : Type 0 where
  pub long_enough : count ≤ length file
  pub front : take count file ≡ take count text

-- the outputs go as far as a checkpoint says
abbrev pub OutputsReach : Course → Checkpoint → Files → Type 0
OutputsReach course c files = (j : ℕ) → j < length course.outputs
    → GoesAsFar (length_in c j) (text_of course j) (files (file_of_output j))

-- ---- versions

-- how long all outputs are together in a checkpoint
abbrev pub total : List ℕ → ℕ
total [] = 0
total (n ∷ ns) = n + total ns

abbrev pub former_length : Checkpoint → ℕ
former_length c = total c.lengths

-- a checkpoint as version 1 has it, with that length alone
abbrev pub former_of : Checkpoint → Checkpoint
former_of c = record c { version = 1; names = []; lengths = former_length c ∷ [] }

-- a checkpoint in version 2 or in version 1
abbrev pub in_version : Bool → Checkpoint → Checkpoint
in_version true c = c
in_version false c = former_of c

-- the files go as far as a checkpoint says: in version 2 each output, in version 1 the former
-- output
abbrev pub Reaches : Course → Bool → Checkpoint → Files → Type 0
Reaches course true c files = OutputsReach course c files
Reaches course false c files = GoesAsFar (former_length c) course.former (files old_output_file)

-- a slot with this checkpoint of the run has a key that agrees with the run's up to there
abbrev pub FitsKey : Checkpoint → List ℕ → Type 0
FitsKey c key = Agree c.iteration key c.key

abbrev pub with_key : List ℕ → Checkpoint → Checkpoint
with_key key c = record c { key = key }

-- a slot's bytes spell a checkpoint of the run, in the version of its version byte
pub record IsOfRun (course : Course) (bytes : List ℕ) : Type 0 where
  pub checkpoint : Checkpoint
  pub of_run : Has course.checkpoints checkpoint
  pub key : List ℕ
  pub key_fits : FitsKey checkpoint key
  pub spelled : SpellsSlot bytes (with_key key (in_version (is_second bytes) checkpoint))

-- ---- trails

abbrev pub IsTrail : Course → Files → Type 0
IsTrail course files = (slot n : ℕ) → slot < slot_count → header_of (files slot) ≡ Some n
    → (s : IsOfRun course (files slot)) × Reaches course (is_second (files slot)) s.checkpoint files

-- the greatest iteration of an open slot, or none
pub record IsGreatest (files : Files) (n : ℕ) : Type 0 where
  pub slot : ℕ
  pub known : slot < slot_count
  pub header : header_of (files slot) ≡ Some n
  pub greatest : (other m : ℕ) → other < slot_count → header_of (files other) ≡ Some m → m ≤ n

abbrev pub NewestIs : Files → Option ℕ → Type 0
NewestIs files None = (slot : ℕ) → slot < slot_count → header_of (files slot) ≡ None
NewestIs files (Some n) = IsGreatest files n

-- the front of a text
abbrev pub IsFrontOf : List ℕ → List ℕ → Type 0
IsFrontOf text file = file ≡ take (length file) text

-- what a keeper keeps between two calls, with the newest iteration and the next checkpoint of the
-- run
pub record Stands (course : Course) (newest : Option ℕ) (next : Option Checkpoint)
    (v : View) : Type 0 where
  pub slots : SlotsSettled v
  pub kept : (slot n : ℕ) → slot < slot_count → header_of (v.seen slot) ≡ Some n
      → (s : IsOfRun course (v.seen slot))
      × ((c : Files) → v.images c → Reaches course (is_second (v.seen slot)) s.checkpoint c)
  pub newest_is : NewestIs v.seen newest
  pub fronts : (j : ℕ) → j < length course.outputs
      → IsFrontOf (text_of course j) (v.seen (file_of_output j))
  pub within : IfSome next
      (λ d. (c : Files) (j : ℕ) → v.images c → j < length course.outputs
      → length (c (file_of_output j)) ≤ length_in d j)

-- no output goes past the next checkpoint
abbrev pub AreWithin : Course → Option Checkpoint → Files → Type 0
AreWithin course next c =
    IfSome next (λ d. (j : ℕ) → j < length course.outputs
    → length (c (file_of_output j)) ≤ length_in d j)

-- an image at a moment in a call: a trail with this newest, and with no output past the next
-- checkpoint
pub record IsTrailOf (course : Course) (newest : Option ℕ) (next : Option Checkpoint)
    (c : Files) : Type 0 where
  pub trail : IsTrail course c
  pub newest_is : NewestIs c newest
  pub within : AreWithin course next c

-- a piece is what comes next in an output's text, and not past the next checkpoint
pub record IsNextPiece (course : Course) (next : Option Checkpoint) (j : ℕ) (piece : List ℕ)
    (file : List ℕ) : Type 0 where
  pub output : j < length course.outputs
  pub front : IsFrontOf (text_of course j) (file ++ piece)
  pub within : IfSome next (λ d. length file + length piece ≤ length_in d j)

-- the keeper's own count of the outputs' lengths
abbrev pub Counts : List ℕ → View → Type 0
Counts lengths v = (j : ℕ) → j < length lengths
    → slice_index lengths j ≡ length (v.seen (file_of_output j))

-- each of so many outputs is the same in all images
abbrev pub OutputsSettled : ℕ → View → Type 0
OutputsSettled count v = (j : ℕ) → j < count → IsSettled v (file_of_output j)

-- the checkpoint comes next, and records the outputs as they are
pub record IsNextCheckpoint (course : Course) (newest : Option ℕ) (c : Checkpoint)
    (v : View) : Type 0 where
  pub of_run : Has course.checkpoints c
  pub version : c.version ≡ 2
  pub in_range : c.iteration < 2 ^ 64
  pub later : IfSome newest (λ n. n < c.iteration)
  pub lengths : (j : ℕ) → j < length course.outputs
      → length_in c j ≡ length (v.seen (file_of_output j))
