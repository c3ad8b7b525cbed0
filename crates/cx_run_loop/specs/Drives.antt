-- What a run of a job leaves of the disk, the wire and the meter, and what it answers.
use Rattle.std.specs.Prelude.{ℕ, ◌+◌, ◌%◌, ◌^◌, ◌<◌, ◌≤◌, ◌≡◌, ◌≢◌, ◌⊎◌, true, List, [], length, slice_index, Option, Some, None, Result, Ok, Err, IfOk}
use Rattle.cx_plan.specs.declared.job.Job.{Job}
use Rattle.cx_plan.specs.declared.job.Recover.{Recover}
use Rattle.cx_plan.specs.declared.job.Recover.TheVariants.{No, Auto, Autoprobe}
use Rattle.cx_plan.specs.declared.variable.VarId.{VarId}
use Rattle.cx_plan.specs.Lookups.{is_scalar, levels_of}
use Rattle.cx_plan.specs.Setups.{Setup, setup_of}
use Rattle.cx_outputs.specs.Names.{output_count}
use Rattle.cx_rule.specs.Meter.{raised}
use Rattle.cx_rule.specs.Routine.{Rule}
use Rattle.cx_rule.specs.declared.spec.Spec.{Spec}
use Rattle.cx_rule.specs.States.{State, scalar_of}
use Rattle.cx_model.specs.Runs.{Lengths, Reaches, undivided_run}
use Rattle.cx_model.specs.Traces.{Entry, Trace, Goes}
use Rattle.cx_cut.specs.Cuts.{Parts}
use Rattle.cx_cut.specs.Faults.{parts_of}
use Rattle.cx_disk.specs.Disk.{Files, View, LeavesOnly}
use Rattle.cx_disk.specs.declared.disk.Disk.{Ghosts as DiskGhosts}
use Rattle.cx_disk.specs.Moments.{IsQuiet}
use Rattle.cx_wire.specs.Received.{counted}
use Rattle.cx_wire.specs.declared.wire.Wire.{Ghosts as WireGhosts}
use Rattle.law_parts.specs.Work.{work, carried_count, total_sum}
use Rattle.cx_chk.specs.declared.checkpoint.Checkpoint.{Checkpoint}
use Rattle.cx_keep.specs.Beginning.{IsRefusal}
use Rattle.cx_keep.specs.Resuming.{AreTrails}
use Rattle.cx_keep.specs.Tests.{begun}
use Rattle.cx_keep.specs.Trails.{Course, Has, IsTrail, NewestIs, length_in, text_of, file_of_output}
use Rattle.law_course.specs.Beginnings.{run_from, entries_from}
use Rattle.law_course.specs.Starts.{course_in}
use Rattle.law_course.specs.Works.{LastIs}
use Rattle.cx_core.specs.Cores.{Cores}
use Rattle.cx_core.specs.Hands.{HasScalar, ended_as, last_number}
use Rattle.cx_core.specs.Steps.{Counts, counts}
use Rattle.cx_core.specs.declared.answers.Outcome.TheVariants.{Going, Done}
use Rattle.cx_run_loop.specs.Lent.{Count, HasRisen, LentDisk, LentWire, lent_disk, lent_wire}
use Rattle.cx_run_loop.specs.Recuts.{cut_from, first_cut}
use Rattle.cx_run_loop.specs.Sums.{CountsBelow, carried_in, sum_in, work_in}
use Rattle.cx_keep.specs.declared.fault.BeginFault.{BeginFault}
use Rattle.cx_keep.specs.declared.fault.BeginFault.TheVariants as begin_faults
use Rattle.cx_run_loop.specs.declared.fault.DriveFault.{DriveFault}
use Rattle.cx_run_loop.specs.declared.fault.DriveFault.TheVariants as faults

-- a run of a job by routines with these rules, which say this of themselves, and what it was lent
pub record Drive : Type 1 where
  pub job : Job
  pub rules : List Rule
  pub specs : List Spec
  pub disk : LentDisk
  pub wire : LentWire
  pub meter : Count

-- over a disk and a wire of types with these ghost members, each before and after the run, as the
-- meter is
abbrev pub driven_by :
    {D W : Type 0} → Job → List Rule → List Spec → DiskGhosts D → WireGhosts W
    → D → D → W → W → ℕ → ℕ → Drive
driven_by job rules specs d w disk disk_after wire wire_after meter meter_after = record {
  job = job;
  rules = rules;
  specs = specs;
  disk = lent_disk d disk disk_after;
  wire = lent_wire w wire wire_after;
  meter = record { old = meter; new = meter_after };
}

-- the undivided run's output and checkpoints
abbrev pub course : Drive → Course
course d = course_in d.job d.rules

abbrev pub cut_in : Drive → Parts
cut_in d = parts_of d.job.shape d.job.cut

-- the cut after the checkpoint place of a state
abbrev pub again_in : Drive → State → Parts
again_in d state = cut_from d.specs d.job state

-- The cut that a run of a job begins with: the job's own at its start, else that after the place
-- that it resumes from.
abbrev pub IsFirstCut : Job → List Rule → List Spec → Option ℕ → Parts → Type 0
IsFirstCut job rules specs None cut = cut ≡ parts_of job.shape job.cut
IsFirstCut job rules specs (Some c) cut =
    (state : State) × (so_far : Lengths) × Reaches (setup_of job) rules c state so_far
    × (cut ≡ cut_from specs job state)

-- the disk and the wire tell what they hold
abbrev pub AreTold : Drive → Type 0
AreTold d = d.disk.tells × d.wire.tells

-- a former output that a start must split isn't too long for it
abbrev pub FitsOld : Drive → Type 0
FitsOld d = (a b : ℕ) → begun d.job d.disk.old.seen ≢ Err (begin_faults.OldTooLong a b)

-- each image of the disk at the start is a trail of the job, and a former output isn't too long; or
-- old checkpoints are given up
abbrev pub StartsWell : Drive → Type 0
StartsWell d = (AreTrails (course d) d.disk.old × FitsOld d) ⊎ (d.job.recover ≡ No)

-- ---- at the end of the run

-- an output's file reads so, and so does it in each image
pub record HasOutput (file : ℕ) (text : List ℕ) (v : View) : Type 0 where
  pub reads : v.seen file ≡ text
  pub images : (image : Files) → v.images image → image file ≡ text

-- each variable's output is that of the undivided run
abbrev pub HasWholeOutput : Drive → Type 0
HasWholeOutput d =
    (j : ℕ) → j < output_count (setup_of d.job)
    → HasOutput (file_of_output j) (text_of (course d) j) d.disk.new

-- the run has ended as the undivided run does
abbrev pub EndsAsUndivided : Drive → Cores → Type 0
EndsAsUndivided d core = core.outcome ≡ ended_as (undivided_run (setup_of d.job) d.rules).outcome

-- the iteration that a run resumes from: that of the newest checkpoint, or none where old ones are
-- given up
abbrev pub ResumesFrom : Recover → Files → Option ℕ → Type 0
ResumesFrom No files n = n ≡ None
ResumesFrom Auto files n = NewestIs files n
ResumesFrom Autoprobe files n = NewestIs files n

-- the points that were computed, the values that were exchanged and their sum are those of these
-- entries, the first of them by this cut, and no message between the parts is left
pub record HasWorkedOn (d : Drive) (cut : Parts) (es : List Entry) : Type 0 where
  pub points : d.meter.new ≡ raised d.meter.old (work_in (setup_of d.job) (again_in d) cut es)
  pub values : d.wire.new.received
      ≡ counted d.wire.old.received (carried_in (setup_of d.job) (again_in d) cut es)
  pub sum : d.wire.new.sum
      ≡ (d.wire.old.sum + sum_in (setup_of d.job) (again_in d) cut es) % 2 ^ 64
  pub none_left : (a b : ℕ) → d.wire.new.queue a b ≡ []

-- they are those of what the undivided run does after the iteration that this run resumes from
pub record HasWorked (d : Drive) : Type 0 where
  pub start : Option ℕ
  pub start_is : ResumesFrom d.job.recover d.disk.old.seen start
  pub cut : Parts
  pub cut_is : IsFirstCut d.job d.rules d.specs start cut
  pub done : HasWorkedOn d cut (entries_from (setup_of d.job) d.rules start)

-- The same of a job that isn't balanced, whose run has one cut: by a law it is what HasWorked says.
pub record HasWorkedByOne (d : Drive) (es : List Entry) : Type 0 where
  pub points : d.meter.new ≡ raised d.meter.old (work (setup_of d.job) (cut_in d) es)
  pub values : d.wire.new.received
      ≡ counted d.wire.old.received (carried_count (setup_of d.job) (cut_in d) es)
  pub sum : d.wire.new.sum
      ≡ (d.wire.old.sum + total_sum (setup_of d.job) (cut_in d) es) % 2 ^ 64
  pub none_left : (a b : ℕ) → d.wire.new.queue a b ≡ []

-- each scalar has the number of the last state of a run that is done
abbrev pub HasScalarsOf : Trace → Drive → Cores → Type 0
HasScalarsOf run d core = (state : State) (v : VarId) → run.outcome ≡ Goes state
    → is_scalar (setup_of d.job) v ≡ true → last_number core v ≡ scalar_of state v

-- of the undivided run
abbrev pub HasLastScalars : Drive → Cores → Type 0
HasLastScalars d = HasScalarsOf (undivided_run (setup_of d.job) d.rules) d

-- a run that came to its end, from a disk that it can go on from
pub record HasEnded (d : Drive) (core : Cores) : Type 0 where
  pub output : HasWholeOutput d
  pub end : EndsAsUndivided d core
  pub work : core.outcome ≡ Done → HasWorked d
  pub scalars : core.outcome ≡ Done → HasLastScalars d core
  pub last : (image : Files) → d.disk.new.images image
      → (n : Option ℕ) × NewestIs image n × LastIs (course d) n

-- ---- each image of each moment

-- none is below every iteration
abbrev pub IsNotBelow : Option ℕ → Option ℕ → Type 0
IsNotBelow found None = Unit {0}
IsNotBelow None (Some n) = ⊥
IsNotBelow (Some m) (Some n) = n ≤ m

-- the newest checkpoint of an image isn't below that of an image of the start
pub record IsNotBehind (start : View) (image : Files) : Type 0 where
  pub first : Files
  pub was : start.images first
  pub not_below : (n m : Option ℕ) → NewestIs image n → NewestIs first m → IsNotBelow n m

-- an image in which an output is longer than at a checkpoint of the run, and longer than in each
-- image of the start, has that one or a newer one
abbrev pub KeepsPace : Course → View → Files → Type 0
KeepsPace run start image =
    (c : Checkpoint) (j : ℕ) → Has run.checkpoints c → j < length run.outputs
    → length_in c j < length (image (file_of_output j))
    → ((first : Files) → start.images first
    → length (first (file_of_output j)) < length (image (file_of_output j)))
    → (n : Option ℕ) → NewestIs image n → IsNotBelow n (Some c.iteration)

pub record KeepsTrail (d : Drive) (image : Files) : Type 0 where
  pub trail : IsTrail (course d) image
  pub not_behind : d.job.recover ≢ No → IsNotBehind d.disk.old image
  pub pace : KeepsPace (course d) d.disk.old image

-- from trails each image of each moment is a trail
abbrev pub LeavesTrails : Drive → Type 0
LeavesTrails d = LeavesOnly d.disk.old d.disk.new (KeepsTrail d)

-- ---- answers

-- a core tells the length of each output's file
pub record AreLengths (setup : Setup) (core : Cores) (files : Files) : Type 0 where
  pub count : length core.lengths ≡ output_count setup
  pub each : (j : ℕ) → j < output_count setup
      → slice_index core.lengths j ≡ length (files (file_of_output j))

-- the run began with this checkpoint or none, and ended as the undivided run does that goes on from
-- there; its core tells how long each output's file is
pub record HasRun (d : Drive) (core : Cores) : Type 0 where
  pub over : core.outcome ≢ Going
  pub found : Option Checkpoint
  pub began : d.disk.tells → begun d.job d.disk.old.seen ≡ Ok found
  pub ended : AreTold d → core.outcome ≡ ended_as (run_from (setup_of d.job) d.rules found).outcome
  pub scalars : AreTold d → core.outcome ≡ Done
      → HasScalarsOf (run_from (setup_of d.job) d.rules found) d core
  pub length_is : d.disk.tells → AreLengths (setup_of d.job) core d.disk.new.seen

-- a start that was refused: why, and nothing has changed
pub record IsRefused (d : Drive) (fault : BeginFault) : Type 0 where
  pub refusal : IsRefusal fault
  pub began : d.disk.tells → begun d.job d.disk.old.seen ≡ Err fault
  pub quiet : d.disk.tells → IsQuiet d.disk.old d.disk.new
  pub wire : d.wire.same
  pub meter : d.meter.new ≡ d.meter.old

-- why a run answers so
abbrev pub Comes : Drive → Result Cores DriveFault → Type 0
Comes d (Ok core) = HasRun d core
Comes d (Err (faults.Recovery fault)) = IsRefused d fault
Comes d (Err faults.Disk) = HasRisen d.disk.faults
Comes d (Err faults.Wire) = HasRisen d.wire.faults
Comes d (Err faults.Memory) = Unit {0}

-- each stored scalar can be lent
abbrev pub LendsScalars : Job → Cores → Type 0
LendsScalars job core = (v : VarId) → v.0 < length (setup_of job).vars
    → 0 < levels_of (setup_of job) v
    → is_scalar (setup_of job) v ≡ true → HasScalar core v

-- what the meter and the wire have counted
abbrev pub counts_old : Drive → Counts
counts_old d = counts d.meter.old d.wire.old.received d.wire.old.sum

abbrev pub counts_new : Drive → Counts
counts_new d = counts d.meter.new d.wire.new.received d.wire.new.sum

-- Where the run that goes on from what was found comes to its end without a fault, no more was
-- counted than it counts in all, however this one stopped.
abbrev pub CountsNoMore : Drive → Type 0
CountsNoMore d =
    (found : Option Checkpoint) → begun d.job d.disk.old.seen ≡ Ok found → (state : State)
    → (run_from (setup_of d.job) d.rules found).outcome ≡ Goes state
    → CountsBelow (setup_of d.job) (again_in d)
    (parts_of d.job.shape (first_cut d.specs d.job found))
    (run_from (setup_of d.job) d.rules found).entries (counts_old d) (counts_new d)

-- ---- all of it

pub record Drives (d : Drive) (result : Result Cores DriveFault) : Type 0 where
  pub comes : Comes d result
  pub ended : AreTold d → StartsWell d → IfOk result (HasEnded d)
  pub trails : AreTold d → AreTrails (course d) d.disk.old → LeavesTrails d
  pub disk_count : d.disk.faults.old ≤ d.disk.faults.new
  pub wire_count : d.wire.faults.old ≤ d.wire.faults.new
  pub points : d.meter.old ≤ d.meter.new
  pub values : d.wire.old.received ≤ d.wire.new.received
  pub within : AreTold d → CountsNoMore d
