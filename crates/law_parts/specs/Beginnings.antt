-- The runs of a job in parts: from its start, and continued from a state of a checkpoint place.
use Rattle.std.specs.Prelude.{ℕ, ◌≤◌, List}
use Rattle.cx_plan.specs.declared.job.Job.{Job}
use Rattle.cx_plan.specs.Setups.{Setup, setup_of}
use Rattle.cx_rule.specs.Routine.{Rule}
use Rattle.cx_rule.specs.States.{State}
use Rattle.cx_model.specs.Runs.{Lengths}
use Rattle.cx_model.specs.States.{IsState}
use Rattle.law_parts.specs.Runs.{Run, from_start, from_state}

-- where a run begins: at its start, or in a state of the checkpoint place of an iteration, with
-- outputs of these lengths
pub data Beginning : Type 0 where
  Afresh : Beginning
  From : (c : ℕ) → State → (so_far : Lengths) → Beginning

-- such a state is a whole one, of an iteration of the run
abbrev pub IsBeginning : Setup → Beginning → Type 0
IsBeginning setup Afresh = Unit {0}
IsBeginning setup (From c state so_far) = (c ≤ setup.itlast) × IsState setup state

-- the run of a job by these rules, over the parts that the job says
abbrev pub run_of : Job → List Rule → Beginning → Run
run_of job rules Afresh = from_start (setup_of job) rules job.cut job.lead
run_of job rules (From c state so_far) =
    from_state (setup_of job) rules job.cut job.lead c state so_far
