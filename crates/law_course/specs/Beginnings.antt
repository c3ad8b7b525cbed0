-- Where a run begins that a keeper found a checkpoint for, or none, and what is left of the
-- undivided run from there.
use Rattle.std.specs.Prelude.{ℕ, ◌==◌, ◌≤◌, ◌≡◌, true, List, [], ◌∷◌, ◌++◌, length, take, Option, Some, None, IfSome, if◌then◌else◌}
use Rattle.cx_plan.specs.declared.job.Job.{Job}
use Rattle.cx_plan.specs.Setups.{Setup, setup_of}
use Rattle.cx_rule.specs.Routine.{Rule}
use Rattle.cx_model.specs.Traces.{Entry, Turned, Overflowed, Exchanged, Tested, Rotated, Wrote, Saved, Trace}
use Rattle.cx_model.specs.Runs.{Lengths, no_lengths, undivided_run, output, output_of}
use Rattle.law_parts.specs.Beginnings.{Beginning, Afresh, From, IsBeginning}
use Rattle.law_parts.specs.Totals.{undivided_from}
use Rattle.cx_chk.specs.declared.checkpoint.Checkpoint.{Checkpoint}
use Rattle.cx_plan.specs.declared.variable.VarId.{VarId}
use Rattle.cx_outputs.specs.Names.{lengths_by}
use Rattle.cx_keep.specs.Beginning.{newest_left}
use Rattle.cx_keep.specs.Fits.{fits_job}
use Rattle.cx_keep.specs.Trails.{Has}
use Rattle.cx_core_buffers.specs.Checkpoints.{state_of, HoldsState}
use Rattle.law_course.specs.Courses.{course_of}

-- ---- the run from a beginning

-- how long the outputs were there, by the variables' numbers
abbrev pub lengths_found : Setup → Option Checkpoint → Lengths
lengths_found setup None = no_lengths
lengths_found setup (Some c) = lengths_by setup.out_vars c.lengths

-- at its start, or in the state of a checkpoint with the lengths of its outputs
abbrev pub beginning_of : Setup → Option Checkpoint → Beginning
beginning_of setup None = Afresh
beginning_of setup (Some c) =
    From c.iteration (state_of setup.vars c) (lengths_found setup (Some c))

-- the undivided run from there
abbrev pub run_from : Setup → List Rule → Option Checkpoint → Trace
run_from setup rules found = undivided_from setup rules (beginning_of setup found)

-- the entries behind the checkpoint place of an iteration
abbrev pub behind_place : ℕ → List Entry → List Entry
behind_place c [] = []
behind_place c (Saved iteration state ∷ es) = if iteration == c then es else behind_place c es
behind_place c (Wrote v iteration text state ∷ es) = behind_place c es
behind_place c (Turned k iteration state ∷ es) = behind_place c es
behind_place c (Overflowed k iteration state ∷ es) = behind_place c es
behind_place c (Exchanged vars path state ∷ es) = behind_place c es
behind_place c (Tested v path state ∷ es) = behind_place c es
behind_place c (Rotated state ∷ es) = behind_place c es

-- the undivided run's entries behind a place, or all of them
abbrev pub entries_from : Setup → List Rule → Option ℕ → List Entry
entries_from setup rules None = (undivided_run setup rules).entries
entries_from setup rules (Some c) = behind_place c (undivided_run setup rules).entries

-- ---- laws of beginnings

-- a checkpoint of the course, or none
abbrev pub IsFound : Setup → List ℕ → List Rule → Option Checkpoint → Type 0
IsFound setup key rules found = IfSome found (Has (course_of setup key rules).checkpoints)

-- The run from there begins in a whole state, has the undivided run's entries from its place on,
-- and ends as it does. Each output is as much of it as was there, and the texts from there on.
pub record GoesOn (setup : Setup) (rules : List Rule) (found : Option Checkpoint) : Type 0 where
  pub begins : IsBeginning setup (beginning_of setup found)
  pub entries : (run_from setup rules found).entries ≡ entries_from setup rules (newest_left found)
  pub outcome : (run_from setup rules found).outcome ≡ (undivided_run setup rules).outcome
  pub within : (v : VarId) → lengths_found setup found v.0 ≤ length (output setup rules v)
  pub output : (v : VarId) → output setup rules v
      ≡ take (lengths_found setup found v.0) (output setup rules v)
      ++ output_of v (run_from setup rules found).entries

abbrev pub CourseGoesOn : Setup → List ℕ → List Rule → Type 0
CourseGoesOn setup key rules = (found : Option Checkpoint) → IsFound setup key rules found
    → GoesOn setup rules found

-- a checkpoint that fits a job, of its run or not, holds a whole state of an iteration in which a
-- run can begin
pub record CanBegin (setup : Setup) (c : Checkpoint) : Type 0 where
  pub holds : HoldsState setup c
  pub begins : IsBeginning setup (beginning_of setup (Some c))

abbrev pub FittingCanBegin : Job → Type 0
FittingCanBegin job = (c : Checkpoint) → fits_job job c ≡ true → CanBegin (setup_of job) c
