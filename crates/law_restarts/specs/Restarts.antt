-- A run that is stopped and started again: what each start was handed, and what the last one
-- leaves.
use Rattle.std.specs.Prelude.{◌≡◌, ◌≢◌, ◌<◌, ℕ, List, [], slice_index_or, Option, Some}
use Rattle.cx_disk.specs.Disk.{Files, View, IsView, SameFiles}
use Rattle.cx_plan.specs.Setups.{Setup, setup_of}
use Rattle.cx_outputs.specs.Names.{output_count}
use Rattle.cx_rule.specs.Routine.{Rule}
use Rattle.cx_plan.specs.declared.job.Job.{Job}
use Rattle.cx_model.specs.Runs.{outputs, end as end_of}
use Rattle.cx_model.specs.declared.ends.End.TheVariants.{Done}
use Rattle.cx_keep.specs.Trails.{Course, NewestIs, file_of_output}
use Rattle.cx_run_loop.specs.Drives.{HasOutput, HasWorked}
use Rattle.law_course.specs.Starts.{course_in, AreAlikeTo}
use Rattle.law_course.specs.Works.{LastIs}
use Rattle.cx_run.specs.Calls.{Lent, Call, IsRun, AreTold, driven}
use Rattle.cx_run.specs.Causes.{WereTrails}
use Rattle.cx_run.specs.Clauses.{Obeys, IsEnd}

-- a call that asks for the run of a job: what it was lent, what it printed to, its status
pub record Start : Type 1 where
  pub call : Call
  pub sink : Lent (List ℕ)
  pub status : ℕ
  pub job : Job

-- it did what the top call says; disk and wire tell what they hold, and the disk is one
pub record IsStart (s : Start) : Type 0 where
  pub obeys : Obeys s.call s.sink s.status
  pub told : AreTold s.call
  pub run : IsRun s.call s.job
  pub view : IsView s.call.work.disk.old

-- what a crash may leave of the disk at a moment of a start, or after it
abbrev pub MayLeave : Start → Files → Type 0
MayLeave s image = s.call.work.disk.new.left_since s.call.work.disk.old.moment image

-- One start after another, with the same routines, on a disk that a crash may have left of the one
-- before. Its job may be steered otherwise after the newest checkpoint of each image of that disk;
-- of an image without a checkpoint nothing is asked.
pub record GoesOn (before after : Start) : Type 0 where
  pub job : (image : Files) (newest : ℕ) → after.call.work.disk.old.images image
      → NewestIs image (Some newest) → AreAlikeTo newest before.job after.job
  pub rules : before.call.work.rules ≡ after.call.work.rules
  pub disk : (image : Files) → after.call.work.disk.old.images image
      → (left : Files) × MayLeave before left × SameFiles left image

-- each image of the disk at the start is a trail of the job
abbrev pub BeginsOnTrails : Start → Type 0
BeginsOnTrails s = WereTrails s.call.work s.job

-- the last checkpoint of a run is the newest one of each image
abbrev pub HasLastOf : Course → View → Type 0
HasLastOf course v = (image : Files) → v.images image
    → (n : Option ℕ) × NewestIs image n × LastIs course n

-- each output file has the text of the undivided run
abbrev pub HasOutputsOf : Setup → List Rule → View → Type 0
HasOutputsOf setup rules v =
    (j : ℕ) → j < output_count setup
    → HasOutput (file_of_output j) (slice_index_or (outputs setup rules) j []) v

-- Where a run of a job comes to an end, it leaves the outputs of the job's undivided run and the
-- run's last checkpoint as the newest one, and its end is that run's.
pub record Ends (job : Job) (rules : List Rule) (status : ℕ) (left : View) : Type 0 where
  pub output : IsEnd status → HasOutputsOf (setup_of job) rules left
  pub last_is : IsEnd status → HasLastOf (course_in job rules) left
  pub done : status ≡ 0 → end_of (setup_of job) rules ≡ Done
  pub ended : status ≡ 3 → end_of (setup_of job) rules ≢ Done

-- The last start begins on trails, and ends so; where it is done, what it computed and exchanged is
-- what was left to do.
pub record EndsAlike (last : Start) : Type 0 where
  pub began : BeginsOnTrails last
  pub ends : Ends last.job last.call.work.rules last.status last.call.work.disk.new
  pub work : last.status ≡ 0 → HasWorked (driven last.call.work last.job)
