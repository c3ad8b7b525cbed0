-- The undivided run as a keeper of its output and checkpoints sees it. Nothing here names a cut.
use Rattle.std.specs.Prelude.{ℕ, ◌<◌, ◌≤◌, ◌≡◌, true, List, [], ◌∷◌, length, AllPairs}
use Rattle.std.specs.List.{AllByRecursion}
use Rattle.cx_plan.specs.declared.job.Job.{Job}
use Rattle.cx_plan.specs.Setups.{Setup, setup_of}
use Rattle.cx_rule.specs.Routine.{Rule}
use Rattle.cx_rule.specs.States.{State}
use Rattle.cx_model.specs.States.{IsState}
use Rattle.cx_model.specs.Traces.{Entry, Turned, Overflowed, Exchanged, Tested, Rotated, Wrote, Saved}
use Rattle.cx_model.specs.Runs.{Lengths, no_lengths, grown_by, undivided_run, outputs, old_output, Reaches}
use Rattle.cx_chk.specs.declared.checkpoint.Checkpoint.{Checkpoint}
use Rattle.cx_chk.specs.Encoding.{IsCheckpoint, IsShort}
use Rattle.cx_outputs.specs.Names.{output_count, output_names, full_names, lengths_in}
use Rattle.cx_ascii_read.specs.Splitting.{split_of}
use Rattle.cx_keep.specs.Fits.{fits_job}
use Rattle.cx_keep.specs.Renewing.{Splits}
use Rattle.cx_keep.specs.Resuming.{IsMonotone, RecordsFronts}
use Rattle.cx_keep.specs.Trails.{Course, Has, length_in}
use Rattle.cx_core_buffers.specs.Checkpoints.{scalars_in, levels_in, state_of, HoldsState}

-- ---- the course of a run

-- the state at the checkpoint place of an iteration, with outputs of these lengths
abbrev pub checkpoint_of : Setup → List ℕ → ℕ → State → Lengths → Checkpoint
checkpoint_of setup key iteration state so_far =
    record {
      version = 2;
      iteration = iteration;
      key = key;
      names = output_names setup;
      lengths = lengths_in setup.out_vars so_far;
      scalars = scalars_in setup.vars state;
      levels = levels_in setup.vars state;
    }

-- the checkpoints of some entries, from outputs of these lengths on
abbrev pub checkpoints_in : Setup → List ℕ → Lengths → List Entry → List Checkpoint
checkpoints_in setup key so_far [] = []
checkpoints_in setup key so_far (Saved iteration state ∷ es) =
    checkpoint_of setup key iteration state so_far ∷ checkpoints_in setup key so_far es
checkpoints_in setup key so_far (Wrote v iteration text state ∷ es) =
    checkpoints_in setup key (grown_by so_far v (length text)) es
checkpoints_in setup key so_far (Turned k iteration state ∷ es) = checkpoints_in setup key so_far es
checkpoints_in setup key so_far (Overflowed k iteration state ∷ es) =
    checkpoints_in setup key so_far es
checkpoints_in setup key so_far (Exchanged vars path state ∷ es) =
    checkpoints_in setup key so_far es
checkpoints_in setup key so_far (Tested v path state ∷ es) = checkpoints_in setup key so_far es
checkpoints_in setup key so_far (Rotated state ∷ es) = checkpoints_in setup key so_far es

-- the undivided run's outputs, all of them in its order, and a checkpoint for each of its
-- checkpoint places
abbrev pub course_of : Setup → List ℕ → List Rule → Course
course_of setup key rules =
    record {
      outputs = outputs setup rules;
      former = old_output setup rules;
      checkpoints = checkpoints_in setup key no_lengths (undivided_run setup rules).entries;
    }

-- ---- laws of courses

-- a later checkpoint, of outputs that aren't shorter
pub record IsBehind (count : ℕ) (a b : Checkpoint) : Type 0 where
  pub iteration : a.iteration < b.iteration
  pub lengths : (j : ℕ) → j < count → length_in a j ≤ length_in b j

-- an output for each variable that is written, and checkpoints whose iterations rise and whose
-- lengths don't fall
pub record CourseRises (setup : Setup) (course : Course) : Type 0 where
  pub outputs : length course.outputs ≡ output_count setup
  pub rises : AllPairs (IsBehind (output_count setup)) course.checkpoints
  pub monotone : IsMonotone course

-- Each checkpoint names the outputs, and records fronts of them and of the former output. So much
-- of the former output as it records splits into the fronts of the outputs.
pub record CourseSplits (setup : Setup) (course : Course) : Type 0 where
  pub fronts : RecordsFronts course
  pub splits : Splits (λ (b : List ℕ). split_of b (full_names setup)) (output_names setup) course

-- the checkpoint of a place that the undivided run reaches
pub record IsPlace (setup : Setup) (key : List ℕ) (rules : List Rule)
    (c : Checkpoint) : Type 0 where
  pub state : State
  pub so_far : Lengths
  pub reached : Reaches setup rules c.iteration state so_far
  pub packed : c ≡ checkpoint_of setup key c.iteration state so_far

-- the checkpoints of the course are those of all places that the run reaches
pub record HasPlaces (setup : Setup) (key : List ℕ) (rules : List Rule) : Type 0 where
  pub places : (c : Checkpoint) → Has (course_of setup key rules).checkpoints c
      → IsPlace setup key rules c
  pub all : (iteration : ℕ) (state : State) (so_far : Lengths)
      → Reaches setup rules iteration state so_far
      → Has (course_of setup key rules).checkpoints (checkpoint_of setup key iteration state so_far)

-- a checkpoint fits its job, and has a spelling where each name of an output has one
pub record FitsJob (job : Job) (c : Checkpoint) : Type 0 where
  pub key : c.key ≡ job.key
  pub fits : fits_job job c ≡ true
  pub in_range : AllByRecursion IsShort (output_names (setup_of job)) → IsCheckpoint c

abbrev pub CourseFits : Job → List Rule → Type 0
CourseFits job rules =
    (c : Checkpoint) → Has (course_of (setup_of job) job.key rules).checkpoints c → FitsJob job c

-- a whole state and a checkpoint of it hold the same
pub record Unpacks (setup : Setup) (c : Checkpoint) (state : State) : Type 0 where
  pub state_is : state_of setup.vars c ≡ state
  pub holds : HoldsState setup c

abbrev pub StatesUnpack : Setup → Type 0
StatesUnpack setup =
    (key : List ℕ) (iteration : ℕ) (state : State) (so_far : Lengths) → IsState setup state
    → Unpacks setup (checkpoint_of setup key iteration state so_far) state

-- a checkpoint of version 2 that holds a whole state, and names the outputs with these lengths, is
-- the one of the state that it holds
abbrev pub StatesPackAgain : Setup → Type 0
StatesPackAgain setup =
    (c : Checkpoint) (so_far : Lengths) → HoldsState setup c → c.version ≡ 2
    → c.names ≡ output_names setup → c.lengths ≡ lengths_in setup.out_vars so_far
    → c ≡ checkpoint_of setup c.key c.iteration (state_of setup.vars c) so_far
