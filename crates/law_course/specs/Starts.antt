-- Starts on trails of a run.
use Rattle.std.specs.Prelude.{ℕ, ◌≡◌, ◌<◌, ◌≤◌, ◌⊎◌, Bool, List, Option, Some, None, Result, Ok, Err, IfSome}
use Rattle.cx_disk.specs.Disk.{Files}
use Rattle.cx_plan.specs.declared.job.Job.{Job}
use Rattle.cx_plan.specs.declared.job.Recover.{Recover}
use Rattle.cx_plan.specs.declared.job.Recover.TheVariants.{No, Auto, Autoprobe}
use Rattle.cx_plan.specs.Setups.{setup_of}
use Rattle.cx_rule.specs.Routine.{Rule}
use Rattle.cx_model.specs.Runs.{undivided_run}
use Rattle.cx_model.specs.Steers.{steered_as, steers_to, SameUpTo}
use Rattle.cx_chk.specs.declared.checkpoint.Checkpoint.{Checkpoint}
use Rattle.cx_keep.specs.declared.fault.BeginFault.{BeginFault}
use Rattle.cx_keep.specs.declared.fault.BeginFault.TheVariants as faults
use Rattle.cx_keep.specs.Agreement.{Agree}
use Rattle.cx_keep.specs.Beginning.{newest_left}
use Rattle.cx_keep.specs.Tests.{begun, greatest_former}
use Rattle.cx_keep.specs.Trails.{Course, Has, IsTrail, NewestIs, Reaches, former_length, with_key}
use Rattle.law_course.specs.Courses.{course_of}
use Rattle.law_course.specs.Beginnings.{IsFound}

-- the course of a job's run
abbrev pub course_in : Job → List Rule → Course
course_in job rules = course_of (setup_of job) job.key rules

-- what a start comes to where the newest checkpoint is this one, or there is none
abbrev pub begun_with : Recover → Option Checkpoint → Result (Option Checkpoint) BeginFault
begun_with No newest = Ok None
begun_with Auto None = Err faults.NoCheckpoint
begun_with Auto (Some c) = Ok (Some c)
begun_with Autoprobe newest = Ok newest

-- a former output that is too long to be split is refused
pub record IsTooLong (job : Job) (files : Files) (newest : Option Checkpoint) : Type 0 where
  pub checkpoint : Checkpoint
  pub is_newest : newest ≡ Some checkpoint
  pub long : greatest_former < former_length checkpoint
  pub begun_is : begun job files
      ≡ Err (faults.OldTooLong (former_length checkpoint) greatest_former)

-- The newest checkpoint of files is one of the run, which the files reach in some version, or there
-- is none. No start on the files is refused, but where a checkpoint is asked for and there is none,
-- or a former output is too long.
pub record BeginsOn (job : Job) (rules : List Rule) (files : Files) : Type 0 where
  pub newest : Option Checkpoint
  pub of_run : IsFound (setup_of job) job.key rules newest
  pub newest_is : NewestIs files (newest_left newest)
  pub reached : IfSome newest (λ c. (second : Bool) × Reaches (course_in job rules) second c files)
  pub begun_is : (begun job files ≡ begun_with job.recover newest) ⊎ IsTooLong job files newest

abbrev pub TrailsBegin : Job → List Rule → Type 0
TrailsBegin job rules = (files : Files) → IsTrail (course_in job rules) files
    → BeginsOn job rules files

-- two jobs have one run and one course, so that a trail of the one is a trail of the other
pub record HaveOneCourse (a b : Job) (rules : List Rule) : Type 0 where
  pub run : undivided_run (setup_of a) rules ≡ undivided_run (setup_of b) rules
  pub course : course_in a rules ≡ course_in b rules
  pub trails : (files : Files) → IsTrail (course_in a rules) files
      → IsTrail (course_in b rules) files

-- ---- jobs that are steered alike up to an iteration

-- one job's setup is the other's with other steers, which are the same up to c; and so are the keys
pub record AreAlikeTo (c : ℕ) (a b : Job) : Type 0 where
  pub setup : setup_of b ≡ steered_as (setup_of a) b.steers
  pub steers : steers_to c a.steers ≡ steers_to c b.steers
  pub key : Agree c a.key b.key

-- Up to the checkpoint place of c they have one run, and each checkpoint of the one is under the
-- other's key one of the other. So a trail of the one is a trail of the other, where no open slot
-- has a later iteration.
pub record HaveOneCourseTo (c : ℕ) (a b : Job) (rules : List Rule) : Type 0 where
  pub run : SameUpTo (setup_of a) b.steers rules c
  pub checkpoints : (chk : Checkpoint) → Has (course_in a rules).checkpoints chk
      → chk.iteration ≤ c → Has (course_in b rules).checkpoints (with_key b.key chk)
  pub trails : (files : Files) (newest : ℕ) → NewestIs files (Some newest) → newest ≤ c
      → IsTrail (course_in a rules) files → IsTrail (course_in b rules) files
