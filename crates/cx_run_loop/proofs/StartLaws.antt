-- Where a run begins.
use Rattle.std.proofs.Common.{◌≡◌, ◌<◌, ℕ, Bool, true, false, List}
use Rattle.std.specs.Prelude.{Option, Some, None, IfSome, IsTrue}
use Rattle.cx_plan.specs.Setups.{setup_of}
use Rattle.cx_plan.specs.declared.job.Job.{Job}
use Rattle.cx_rule.specs.Routine.{Rule}
use Rattle.cx_chk.specs.declared.checkpoint.Checkpoint.{Checkpoint}
use Rattle.law_parts.specs.Beginnings.{Beginning, IsBeginning, run_of}
use Rattle.law_parts.specs.Totals.{undivided_from}
use Rattle.cx_outputs.specs.Names.{output_count}
use Rattle.cx_keep.specs.Beginning.{HasLengths}
use Rattle.cx_keep.specs.Fits.{fits_job}
use Rattle.cx_core.specs.declared.answers.Outcome.TheVariants.{Going}
use Rattle.cx_core.specs.Cores.{ahead_in, enabled_in}
use Rattle.cx_core.specs.Hands.{Stands}
use Rattle.cx_core.specs.Starts.{CanBegin, begins_in}
use Rattle.cx_core.specs.Steps.{Counts, Standing, IsAt, IsRunning}
use Rattle.law_course.specs.Beginnings.{FittingCanBegin}

-- a checkpoint that fits the job, with a length for each output
pub can_start : (job : Job) → FittingCanBegin job → (found : Option Checkpoint)
    → IfSome found (λ c. fits_job job c ≡ true)
    → HasLengths (output_count (setup_of job)) found → CanBegin (setup_of job) found
can_start job can None fits lengths = tt
can_start job can (Some c) fits lengths = let one = can c fits in
    (one.begins.0, one.holds, lengths)

pub is_beginning : (job : Job) → FittingCanBegin job → (found : Option Checkpoint)
    → IfSome found (λ c. fits_job job c ≡ true)
    → IsBeginning (setup_of job) (begins_in (setup_of job) found)
is_beginning job can None fits = tt
is_beginning job can (Some c) fits = (can c fits).begins

-- an event can happen that doesn't lie ahead, while the run goes on
pub some_before : (told : Bool) (job : Job) (rules : List Rule) (is : Standing (IsTrue told))
    → ((told : Bool) (rules : List Rule) (b : Beginning) → IsBeginning (setup_of job) b
    → (first : Counts) (is : Standing (IsTrue told))
    (at : IsAt (IsTrue told) (run_of job rules b) first is.core is.queue is.now)
    → Stands (IsTrue told) (run_of job rules b) (undivided_from (setup_of job) rules b)
    first is at)
    → IsRunning (IsTrue told) job rules is → is.core.outcome ≡ Going
    → (k : ℕ) × (k < enabled_in is.core) × (ahead_in is.core k ≡ false)
some_before told job rules is law running going =
    (law told rules running.beginning running.begins running.first is running.at).some_before going
