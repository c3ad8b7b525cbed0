-- How far the run of a job is, on a disk and a wire of its own, while others count on the same
-- meter.
use Rattle.std.specs.Prelude.{ℕ, ◌+◌, ◌-◌, ◌*◌, ◌≤◌, ◌≡◌, ◌⊎◌, Bool, true, false, IsTrue, List, Option, None, Result, Ok, Err, OnOk, IfOk}
use Rattle.cx_cut.specs.Cuts.{part_count}
use Rattle.cx_cut.specs.Faults.{cut_fault, parts_of}
use Rattle.cx_plan.specs.declared.job.Cuts.{Cuts}
use Rattle.cx_plan.specs.declared.job.Job.{Job}
use Rattle.cx_plan.specs.Setups.{setup_of}
use Rattle.cx_outputs.specs.Names.{HasShortNames, output_count, output_names}
use Rattle.cx_rule.specs.Jobs.{FitJob}
use Rattle.cx_rule.specs.Routine.{Rule}
use Rattle.cx_rule.specs.declared.spec.Spec.{Spec}
use Rattle.cx_disk.specs.Disk.{IsNamed, View}
use Rattle.cx_disk.specs.Files.{count_with}
use Rattle.cx_disk.specs.declared.disk.Disk.{Ghosts as DiskGhosts}
use Rattle.cx_wire.specs.declared.wire.Wire.{Ghosts as WireGhosts}
use Rattle.cx_chk.specs.declared.checkpoint.Checkpoint.{Checkpoint}
use Rattle.cx_keep.specs.Beginning.{HasLengths, IsStarted, StartMoments}
use Rattle.cx_keep.specs.Tests.{begun}
use Rattle.law_parts.specs.Beginnings.{Beginning, IsBeginning}
use Rattle.cx_core.specs.declared.answers.Outcome.TheVariants.{Going as GoesOn}
use Rattle.cx_core.specs.Cores.{Cores}
use Rattle.cx_core.specs.Left.{rank_limit, steps_left}
use Rattle.cx_core.specs.Starts.{IsReady, lengths_first}
use Rattle.cx_core.specs.Steps.{Counts, counts}
use Rattle.cx_run_loop.specs.declared.fault.DriveFault.{DriveFault}
use Rattle.cx_run_loop.specs.declared.fault.DriveFault.TheVariants as faults
use Rattle.cx_run_loop.specs.declared.turn.Advance.TheVariants as advances
use Rattle.cx_run_loop.specs.Advances.{CanAdvance, run_state}
use Rattle.cx_run_loop.specs.Cores.{BeginsCores, is_cut_anew, next_after, run_by, start_of}
use Rattle.cx_run_loop.specs.CoresWait.{CoresWait}
use Rattle.cx_run_loop.specs.Drives.{Drives, LendsScalars, driven_by}
use Rattle.cx_run_loop.specs.Faults.{StopsStart}
use Rattle.cx_run_loop.specs.Going.{IsDriving, Place, Setting, place_at, setting}
use Rattle.cx_run_loop.specs.Laws.{DriveLaws}
use Rattle.cx_run_loop.specs.Lent.{Count}
use Rattle.cx_run_loop.specs.Recuts.{cut_from, first_cut, with_cut}
use Rattle.cx_run_loop.specs.Segments.{SegmentTo, Start}
use Rattle.cx_run_loop.specs.UnderWay.{BeginsAnew, HasBegun, HasCome, Runs}
use Rattle.cx_run_loop.specs.Waiting.{IsWaiting}
use Rattle.cx_run_batch.specs.declared.stage.Stage.{Stage}
use Rattle.cx_run_batch.specs.declared.stage.Stage.TheVariants.{Going, Over}
use Rattle.cx_run_batch.specs.declared.stage.UnderWay.{UnderWay}

-- a disk and a wire, each as it was lent and as it is, the meter, and how much of it this run has
-- counted
pub record Lot (D W : Type 0) : Type 0 where
  pub disk_lent : D
  pub disk : D
  pub wire_lent : W
  pub wire : W
  pub meter : ℕ
  pub spent : ℕ

abbrev pub lot : {D W : Type 0} → D → D → W → W → ℕ → ℕ → Lot D W
lot disk_lent disk wire_lent wire meter spent = record {
  disk_lent = disk_lent;
  disk = disk;
  wire_lent = wire_lent;
  wire = wire;
  meter = meter;
  spent = spent;
}

-- ---- its job

-- a job that routines serve which say this of themselves
pub record IsServed (specs : List Spec) (job : Job) : Type 0 where
  pub ready : IsReady job
  pub short : HasShortNames (setup_of job)
  pub fit : FitJob specs job
  pub cut : cut_fault (parts_of job.shape job.cut) ≡ None

-- the job in its own cut
abbrev pub own_job : Job → Stage → Job
own_job job (Going x) = with_cut job x.own
own_job job (Over result) = job

-- the law of cores whose parts wait for each other, of each run of the job
abbrev pub AllWait : Job → Type 0
AllWait job = (told : Bool) (rules : List Rule) (b : Beginning) → IsBeginning (setup_of job) b
    → CoresWait (IsTrue told) job rules b

-- ---- its first turn

-- a run that has begun from what was found, with its first core, in the first cut of its job, which
-- the job has now
pub record HasFirstCore (specs : List Spec) (job now : Job) (found : Option Checkpoint)
    (run : Runs) (x : UnderWay) : Type 0 where
  pub job_is : now ≡ with_cut job now.cut
  pub cut_is : now.cut ≡ first_cut specs job found
  pub own_is : x.own ≡ job.cut
  pub next_is : x.next ≡ next_after found
  pub begins : BeginsCores now specs job found run x.run
  pub ready : IsReady now
  pub fit : FitJob specs now
  pub waits : AllWait now

-- or there was no memory for it
abbrev pub FirstCore : List Spec → (job now : Job) → Option Checkpoint → Runs → Stage → Type 0
FirstCore specs job now found run (Going x) = HasFirstCore specs job now found run x
FirstCore specs job now found run (Over result) = (now ≡ job) × (result ≡ Err faults.Memory)

-- what comes of a start on a disk: it has begun, in the job's folders and files, or it can't begin
pub record HasBegunOn {D : Type 0} (d : DiskGhosts D) (specs : List Spec) (job now : Job)
    (was is : D) (x : UnderWay) : Type 0 where
  pub found : Option Checkpoint
  pub run : Runs
  pub begun : HasBegun job d.tells found run (d.view was) (d.view is)
  pub first : run.core.lengths ≡ lengths_first (setup_of job) found
  pub mounted : IsTrue (d.mounted is)
  pub files : d.file_count is ≡ count_with (output_count (setup_of job))
  pub folders : IsNamed job.out_dir (output_names (setup_of job)) job.chk_dir (d.folders is)
  pub core : HasFirstCore specs job now found run x

abbrev pub StartsAs :
    {D : Type 0} → DiskGhosts D → List Spec → (job now : Job) → (was is : D) → Stage → Type 0
StartsAs d specs job now was is (Going x) = HasBegunOn d specs job now was is x
StartsAs d specs job now was is (Over (Ok core)) = ⊥
StartsAs d specs job now was is (Over (Err fault)) =
    (now ≡ job)
    × StopsStart job d.tells (d.view was) (d.view is)
    (record { old = d.faults was; new = d.faults is }) fault

pub record BeginsAs {D : Type 0} (d : DiskGhosts D) (specs : List Spec) (job now : Job)
    (was is : D) (stage : Stage) : Type 0 where
  pub starts : StartsAs d specs job now was is stage
  pub moments : d.tells → StartMoments job job.recover (d.view was) (d.view is)
  pub later : d.faults was ≤ d.faults is

-- ---- after a checkpoint was saved

-- it goes on with another core, in the cut after that checkpoint, which its job has now
pub record HasCutAnew (specs : List Spec) (job now : Job) (x y : UnderWay) : Type 0 where
  pub anew : is_cut_anew job x.next advances.Saved x.run.core ≡ true
  pub job_is : now ≡ with_cut job now.cut
  pub own_is : y.own ≡ x.own
  pub next_is : y.next ≡ x.run.core.buffers.state.iteration + 1
  pub begins : BeginsAnew now specs (with_cut job x.own) x.run.core.buffers.state x.run.keeper y.run
  pub waits : AllWait now

-- or as before
pub record StaysInCut (job now : Job) (x y : UnderWay) : Type 0 where
  pub stays : is_cut_anew job x.next advances.Saved x.run.core ≡ false
  pub same : y ≡ x
  pub job_is : now ≡ job

-- or there was no memory for another core, and it is over
pub record LacksCore (job now : Job) (x : UnderWay) (result : Result Cores DriveFault)
    : Type 0 where
  pub job_is : now ≡ with_cut job x.own
  pub result_is : result ≡ Err faults.Memory
  pub laws : (told : Bool) (rules : List Rule) → DriveLaws (IsTrue told) now rules

abbrev pub GoesOnAfter : List Spec → (job now : Job) → UnderWay → Stage → Type 0
GoesOnAfter specs job now x (Going y) = HasCutAnew specs job now x y ⊎ StaysInCut job now x y
GoesOnAfter specs job now x (Over result) = LacksCore job now x result

-- ---- how far it is

-- where its present core began: from what, what was counted by then, and the disk
pub record CoreStart (D : Type 0) : Type 0 where
  pub found : Option Checkpoint
  pub counts : Counts
  pub disk : D

-- in this cut
abbrev pub begins_at : {D : Type 0} → DiskGhosts D → Cuts → CoreStart D → Start
begins_at d cut c =
    record { cut = cut; found = c.found; counts = c.counts; view = d.view c.disk }

-- A core has come from there. Where its job is balanced its parts have waited for each other.
pub record ComesWaiting (s : Setting) (found : Option Checkpoint) (first : Counts) (old : View)
    (p : Place s) : Type 0 where
  pub come : HasCome s found first old p
  pub waits : s.job.balance ≡ true → IsWaiting s found first p come.there

-- under way by this cut of its job, from what was found on the disk that it was lent
pub record IsOnWay {D W : Type 0} (d : DiskGhosts D) (w : WireGhosts W) (rules : List Rule)
    (specs : List Spec) (job : Job) (cut : Cuts) (lot : Lot D W) (x : UnderWay) : Type 0 where
  pub found : Option Checkpoint
  -- the disk after the start
  pub begun_on : D
  -- what the meter has counted without this run
  pub others : ℕ
  pub spent : others + lot.spent ≡ lot.meter
  pub found_is : d.tells → begun job (d.view lot.disk_lent).seen ≡ Ok found
  pub started : d.tells
      → IsStarted job job.recover found (d.view lot.disk_lent) (d.view begun_on)
  pub lengths : HasLengths (output_count (setup_of job)) found
  pub moments : d.tells
      → StartMoments job job.recover (d.view lot.disk_lent) (d.view begun_on)
  -- from the start to its present core, and from there to where it is
  pub core : CoreStart D
  pub segment : SegmentTo (setting d w job rules) (cut_from specs job)
      (start_of (run_by job rules specs found)
      (counts others (w.received lot.wire_lent) (w.sum lot.wire_lent)) (d.view begun_on))
      (begins_at d cut core)
  pub next_is : x.next ≡ next_after core.found
  pub comes : ComesWaiting (setting d w (with_cut job cut) rules) core.found core.counts
      (d.view core.disk) (place_at d w x.run.core lot.disk lot.wire lot.meter)
  pub plain : job.balance ≡ false → cut ≡ job.cut
  pub folders : IsNamed job.out_dir (output_names (setup_of job)) job.chk_dir (d.folders lot.disk)
  pub begun_later : d.faults lot.disk_lent ≤ d.faults begun_on
  pub disk_later : d.faults begun_on ≤ d.faults lot.disk
  pub wire_later : w.faults lot.wire_lent ≤ w.faults lot.wire
  pub values : w.received lot.wire_lent ≤ w.received lot.wire

-- over, as a run that had a meter to itself: what that counted is what this run has spent
pub record IsOver {D W : Type 0} (d : DiskGhosts D) (w : WireGhosts W) (rules : List Rule)
    (specs : List Spec) (job : Job) (lot : Lot D W) (result : Result Cores DriveFault)
    : Type 0 where
  pub meter : Count
  pub spent : meter.old + lot.spent ≡ meter.new
  pub within : meter.new ≤ lot.meter
  pub drives : Drives (driven_by job rules specs d w lot.disk_lent lot.disk lot.wire_lent lot.wire
      meter.old meter.new) result
  pub folders : OnOk result
      (IsNamed job.out_dir (output_names (setup_of job)) job.chk_dir (d.folders lot.disk))
  pub scalars : IfOk result (LendsScalars job)

abbrev pub IsAt : {D W : Type 0} → DiskGhosts D → WireGhosts W → List Rule → List Spec → Job
    → Lot D W → Stage → Type 0
IsAt d w rules specs job lot (Going x) =
    IsOnWay d w rules specs (with_cut job x.own) job.cut lot x
IsAt d w rules specs job lot (Over result) = IsOver d w rules specs job lot result

-- parts that have waited for each other from where a core began, each later checkpoint coming from
-- this iteration on
pub record HaveWaited (s : Setting) (next : ℕ) (p : Place s) : Type 0 where
  pub found : Option Checkpoint
  pub first : Counts
  pub next_is : next ≡ next_after found
  pub there : IsDriving s found first p
  pub waiting : IsWaiting s found first p there

-- a run that isn't over can be moved on, in the cut that its job has, and cut anew
pub record CanGoOn {D W : Type 0} (d : DiskGhosts D) (w : WireGhosts W) (rules : List Rule)
    (specs : List Spec) (job : Job) (disk : D) (wire : W) (meter : ℕ) (x : UnderWay)
    : Type 0 where
  pub ready : IsReady job
  pub fit : FitJob specs job
  pub going : x.run.core.outcome ≡ GoesOn
  pub able : CanAdvance d w job rules (run_state x.run disk wire meter)
  pub parts : part_count (parts_of job.shape job.cut) ≡ part_count (parts_of job.shape x.own)
  pub waits : job.balance ≡ true
      → HaveWaited (setting d w job rules) x.next (place_at d w x.run.core disk wire meter)

abbrev pub IsAble : {D W : Type 0} → DiskGhosts D → WireGhosts W → List Rule → List Spec → Job
    → D → W → ℕ → Stage → Type 0
IsAble d w rules specs job disk wire meter (Going x) =
    CanGoOn d w rules specs job disk wire meter x
IsAble d w rules specs job disk wire meter (Over result) = Unit {0}

-- ---- how much is left

abbrev pub is_over : Stage → Bool
is_over (Going run) = false
is_over (Over result) = true

-- no core of the job has more steps to do
abbrev pub most_steps : Job → ℕ
most_steps job =
    2 * (part_count (parts_of job.shape job.cut) * rank_limit (setup_of job))
    + rank_limit (setup_of job) + 2

-- no more turns than this: those of the present core, and those of a core after each iteration that
-- is left
abbrev pub turns_left : Job → Stage → ℕ
turns_left job (Going x) =
    1 + (job.itlast + 1 - x.next) * (1 + most_steps (with_cut job x.own))
    + steps_left (setup_of job) x.run.core.pace
turns_left job (Over result) = 0
