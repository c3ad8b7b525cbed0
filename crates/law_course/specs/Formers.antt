-- The program before this one: it wrote all outputs to one file, with one limit for all of them
-- together, and its checkpoints were of version 1.
use Rattle.std.specs.Prelude.{ℕ, ◌+◌, ◌<◌, ◌≡◌, nat_le, List, [], ◌∷◌, ◌++◌, length, Some, if◌then◌else◌}
use Rattle.cx_disk.specs.Disk.{Files}
use Rattle.cx_disk.specs.Files.{slot_count, old_output_file}
use Rattle.cx_plan.specs.declared.job.Job.{Job}
use Rattle.cx_plan.specs.Setups.{Setup, setup_of}
use Rattle.cx_rule.specs.Routine.{Rule}
use Rattle.cx_rule.specs.States.{State}
use Rattle.cx_model.specs.States.{start}
use Rattle.cx_model.specs.Stages.{stages}
use Rattle.cx_model.specs.Traces.{Entry, Saved}
use Rattle.cx_model.specs.Runs.{greatest_output, text_added, former_output, run_stages}
use Rattle.cx_chk.specs.declared.checkpoint.Checkpoint.{Checkpoint}
use Rattle.cx_chk.specs.Encoding.{SpellsSlot}
use Rattle.cx_chk.specs.Slots.{header_of}
use Rattle.cx_keep.specs.Trails.{GoesAsFar, IsTrail}
use Rattle.cx_core_buffers.specs.Checkpoints.{scalars_in, levels_in}
use Rattle.law_course.specs.Starts.{course_in}

-- ---- its run

-- a text with which all of them together would pass the limit ends the run before it
abbrev pub within_former : ℕ → List Entry → List Entry
within_former so_far [] = []
within_former so_far (e ∷ es) = if nat_le (so_far + length (text_added e)) greatest_output
    then e ∷ within_former (so_far + length (text_added e)) es else []

-- the entries of its undivided run
abbrev pub former_run : Setup → List Rule → List Entry
former_run setup rules =
    within_former 0 (run_stages setup rules (stages setup) (start setup)).entries

-- ---- its trails

-- the state at the checkpoint place of an iteration, with a file of this length
abbrev pub former_checkpoint : Setup → List ℕ → ℕ → State → ℕ → Checkpoint
former_checkpoint setup key iteration state so_far =
    record {
      version = 1;
      iteration = iteration;
      key = key;
      names = [];
      lengths = so_far ∷ [];
      scalars = scalars_in setup.vars state;
      levels = levels_in setup.vars state;
    }

-- a slot spells the checkpoint of a place that its run reaches, and the file goes as far
pub record IsOfFormerRun (setup : Setup) (key : List ℕ) (rules : List Rule) (files : Files)
    (bytes : List ℕ) : Type 0 where
  pub earlier : List Entry
  pub later : List Entry
  pub iteration : ℕ
  pub state : State
  pub there : former_run setup rules ≡ earlier ++ Saved iteration state ∷ later
  pub spelled : SpellsSlot bytes
      (former_checkpoint setup key iteration state (length (former_output earlier)))
  pub reached : GoesAsFar (length (former_output earlier)) (former_output (former_run setup rules))
      (files old_output_file)

abbrev pub IsFormerTrail : Setup → List ℕ → List Rule → Files → Type 0
IsFormerTrail setup key rules files =
    (slot n : ℕ) → slot < slot_count → header_of (files slot) ≡ Some n
    → IsOfFormerRun setup key rules files (files slot)

-- each trail of it is one of this program
abbrev pub FormerIsTrail : Job → List Rule → Type 0
FormerIsTrail job rules =
    (files : Files) → IsFormerTrail (setup_of job) job.key rules files
    → IsTrail (course_in job rules) files
