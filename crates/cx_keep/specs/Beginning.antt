-- What a start leaves, at each moment and when it is done.
use Rattle.std.specs.Prelude.{ℕ, ◌<◌, ◌≤◌, ◌≡◌, ◌≢◌, ◌⊎◌, List, [], length, map, take, replicate, slice_index, slice_index_or, Option, Some, None, option_map, IfSome}
use Rattle.cx_plan.specs.declared.job.Recover.{Recover}
use Rattle.cx_plan.specs.declared.job.Recover.TheVariants.{No}
use Rattle.cx_disk.specs.Disk.{Files, View, LeavesOnly}
use Rattle.cx_disk.specs.Moments.{IsQuiet}
use Rattle.cx_chk.specs.declared.checkpoint.Checkpoint.{Checkpoint}
use Rattle.cx_disk.specs.Files.{old_output_file}
use Rattle.cx_chk.specs.Slots.{SlotsSettled, NoneOpen}
use Rattle.cx_keep.specs.declared.fault.BeginFault.{BeginFault}
use Rattle.cx_keep.specs.declared.fault.BeginFault.TheVariants as faults
use Rattle.cx_plan.specs.declared.job.Job.{Job}
use Rattle.cx_plan.specs.Setups.{Setup, setup_of}
use Rattle.cx_outputs.specs.Names.{output_count, full_names, output_names}
use Rattle.cx_ascii_read.specs.Splitting.{split_of}
use Rattle.cx_keep.specs.Tests.{split_at}
use Rattle.cx_keep.specs.Trails.{Course, Has, IsTrail, NewestIs, Stands, Counts, OutputsSettled, total, length_in, file_of_output}
use Rattle.cx_keep.specs.Resuming.{AreTrails, IsMonotone, RecordsFronts, SlotsKept, CanResume}
use Rattle.cx_keep.specs.Renewing.{CanRenew, Splits}

-- an output isn't longer than what the newest checkpoint of an image has
pub record IsOfNewest (course : Course) (j : ℕ) (c : Files) : Type 0 where
  pub checkpoint : Checkpoint
  pub of_run : Has course.checkpoints checkpoint
  pub newest : NewestIs c (Some checkpoint.iteration)
  pub within : length (c (file_of_output j)) ≤ length_in checkpoint j

-- An image at a moment of a start: a trail. Unless old checkpoints are given up, its newest is that
-- of an image from before. No output is longer than in that image, but that it may be made anew up
-- to what the newest checkpoint has.
pub record IsWithinStart (course : Course) (recover : Recover) (old : View)
    (c : Files) : Type 0 where
  pub before : Files
  pub was : old.images before
  pub newest : recover ≢ No → (n : Option ℕ) → NewestIs before n → NewestIs c n
  pub outputs : (j : ℕ) → j < length course.outputs
      → (length (c (file_of_output j)) ≤ length (before (file_of_output j))) ⊎ IsOfNewest course j c
  pub trail : IsTrail course c

-- A run for whose start a disk is, with the outputs of a setup: its checkpoints rise with their
-- lengths, each is of version 2 and records the front of each output and of all of them together,
-- which splits into those; and each image is a trail of it, unless old checkpoints are given up.
pub record CanStart (setup : Setup) (course : Course) (recover : Recover)
    (old : View) : Type 0 where
  pub monotone : IsMonotone course
  pub outputs : length course.outputs ≡ output_count setup
  pub fronts : RecordsFronts course
  pub splits : Splits (λ (b : List ℕ). split_of b (full_names setup)) (output_names setup) course
  pub trails : recover ≢ No → AreTrails course old

-- the outputs' lengths that a start leaves, of so many outputs, and its newest iteration
abbrev pub lengths_left : ℕ → Option Checkpoint → List ℕ
lengths_left count None = replicate count 0
lengths_left count (Some c) = c.lengths

abbrev pub length_left : Option Checkpoint → ℕ → ℕ
length_left None j = 0
length_left (Some c) j = slice_index c.lengths j

abbrev pub newest_left : Option Checkpoint → Option ℕ
newest_left found = option_map (λ (c : Checkpoint). c.iteration) found

-- there is a length for each output
abbrev pub HasLengths : ℕ → Option Checkpoint → Type 0
HasLengths count found = length (lengths_left count found) ≡ count

-- the next checkpoint records no shorter outputs
abbrev pub IsLater : Course → Option Checkpoint → Option Checkpoint → Type 0
IsLater course found next =
    IfSome next (λ d. (j : ℕ) → j < length course.outputs → length_left found j ≤ length_in d j)

-- what a keeper goes on from behind a start, for each next checkpoint
abbrev pub Starts : Course → View → Option Checkpoint → Type 0
Starts course new found = (next : Option Checkpoint) → IsLater course found next
    → Stands course (newest_left found) next new

-- the same behind a start with this checkpoint, of any run that can go on from it
abbrev pub ResumeStands : Checkpoint → View → View → Type 0
ResumeStands chk old new = (course : Course) → CanResume course chk old
    → Starts course new (Some chk)

-- the same behind a start with a checkpoint of version 1, of any run for whose outputs these texts
-- are
abbrev pub RenewStands : List (List ℕ) → View → View → Type 0
RenewStands texts old new =
    (course : Course) (chk : Checkpoint) → AreTrails course old → CanRenew course chk texts old
    → Starts course new (Some chk)

-- at each moment of such a start each image is a trail
abbrev pub RenewMoments : List (List ℕ) → View → View → Type 0
RenewMoments texts old new =
    (course : Course) (chk : Checkpoint) (recover : Recover) → AreTrails course old
    → CanRenew course chk texts old → LeavesOnly old new (IsWithinStart course recover old)

-- an answer for which no byte may have changed
abbrev pub IsRefusal : BeginFault → Type 0
IsRefusal faults.Disk = ⊥
IsRefusal faults.Memory = ⊥
IsRefusal faults.NoCheckpoint = Unit {0}
IsRefusal (faults.OtherJob a b) = Unit {0}
IsRefusal (faults.Damaged slot) = Unit {0}
IsRefusal (faults.OutputShort a b) = Unit {0}
IsRefusal (faults.OldTooLong a b) = Unit {0}

-- a start that is refused changes no byte, at any moment
abbrev pub LeavesAsIs : View → View → BeginFault → Type 0
LeavesAsIs old new e = IsRefusal e → IsQuiet old new

-- each output is the front of so many bytes of what it was
abbrev pub AreFronts : List ℕ → Files → Files → Type 0
AreFronts lengths old new = (j : ℕ) → j < length lengths
    → new (file_of_output j) ≡ take (slice_index lengths j) (old (file_of_output j))

-- each output is a text of what the former output splits into
pub record AreSplit (job : Job) (lengths : List ℕ) (old new : Files) : Type 0 where
  pub texts : List (List ℕ)
  pub split_is : split_at job (total lengths) old ≡ Some texts
  pub lengths_are : lengths ≡ map (λ (t : List ℕ). length t) texts
  pub outputs : (j : ℕ) → j < length lengths → new (file_of_output j) ≡ slice_index_or texts j []

-- Each slot and each output is the same in all images, and each output has exactly its length: it
-- is the front of what it was, or, behind a checkpoint of version 1, made of the former output.
pub record IsLeft (job : Job) (lengths : List ℕ) (old new : View) : Type 0 where
  pub slots : SlotsSettled new
  pub counts : Counts lengths new
  pub settled : OutputsSettled (length lengths) new
  pub outputs : AreFronts lengths old.seen new.seen ⊎ AreSplit job lengths old.seen new.seen

-- the former output stays, or is cut to nothing where there is no checkpoint
abbrev pub former_left : Option Checkpoint → List ℕ → List ℕ
former_left None bytes = []
former_left (Some c) bytes = bytes

-- what a start leaves that is done; only slots of version 2 may be closed, where the newest is of
-- version 1
pub record IsStarted (job : Job) (recover : Recover) (found : Option Checkpoint)
    (old new : View) : Type 0 where
  pub stands : (course : Course) → CanStart (setup_of job) course recover old
      → Starts course new found
  pub left : IsLeft job (lengths_left (output_count (setup_of job)) found) old new
  pub former : new.seen old_output_file ≡ former_left found (old.seen old_output_file)
  pub kept : recover ≢ No → SlotsKept old.seen new.seen
  pub closed : recover ≡ No → NoneOpen new.seen

-- at each moment of a start each image is a trail, of any run of which each image was one
abbrev pub StartMoments : Job → Recover → View → View → Type 0
StartMoments job recover old new =
    (course : Course) → CanStart (setup_of job) course recover old → AreTrails course old
    → LeavesOnly old new (IsWithinStart course recover old)
