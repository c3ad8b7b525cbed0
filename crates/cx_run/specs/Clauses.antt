-- The clauses of the top call.
use Rattle.std.specs.Prelude.{◌≡◌, ◌≢◌, ◌⊎◌, ℕ, ℤ, ◌<◌, ◌≤◌, List, length, map, Option, None, Some, Ok, Err}
use Rattle.cx_disk.specs.Disk.{LeavesOnly}
use Rattle.cx_disk.specs.Files.{output_limit}
use Rattle.cx_disk.specs.Moments.{IsQuiet}
use Rattle.cx_plan.specs.Setups.{setup_of}
use Rattle.cx_plan.specs.declared.job.Job.{Job}
use Rattle.cx_model.specs.Runs.{undivided_run, outputs, end as end_of, end_by}
use Rattle.cx_model.specs.declared.ends.End.{End}
use Rattle.cx_model.specs.declared.ends.End.TheVariants.{Done, Overflow, WhileLimit, OutputLimit}
use Rattle.cx_chk.specs.declared.checkpoint.Checkpoint.{Checkpoint}
use Rattle.cx_keep.specs.Tests.{begun}
use Rattle.cx_keep.specs.Resuming.{AreTrails}
use Rattle.cx_keep.specs.Trails.{Course, IsTrail, total}
use Rattle.cx_keep.specs.declared.fault.BeginFault.{BeginFault}
use Rattle.cx_keep.specs.declared.fault.BeginFault.TheVariants.{NoCheckpoint}
use Rattle.law_course.specs.Beginnings.{run_from}
use Rattle.cx_job.specs.Making.{without_witness}
use Rattle.cx_job.specs.declared.fault.JobFault.{JobFault}
use Rattle.cx_run_loop.specs.Lent.{HasRisen}
use Rattle.cx_run_loop.specs.Drives.{CountsNoMore, StartsWell, HasWholeOutput, HasWorked, LeavesTrails}
use Rattle.cx_run.specs.Answers.{text_of, Says, WasSaid}
use Rattle.cx_run.specs.Calls.{Lent, Work, Call, Makes, TellsFiles, IsRun, AreTold, IsStill, SparesShelf, driven}
use Rattle.cx_run.specs.Causes.{HasLast, LiveIs, Explains, WereTrails, CanGoOn}
use Rattle.cx_run.specs.Chunks.{IsApart, OnChunks, UsesDisk, files_fault, status_by}
use Rattle.cx_run.specs.Sink.{Adds}
use Rattle.cx_run.specs.Texts.{made_text}
use Rattle.cx_run.specs.Words.{Request, asked}
use Rattle.cx_run.specs.declared.reply.Answer.{Answer}
use Rattle.cx_run.specs.declared.reply.Answer.TheVariants as a
use Rattle.cx_run.specs.declared.words.Command.TheVariants.{Make}

-- ---- a run

-- it came to its end
abbrev pub IsEnd : ℕ → Type 0
IsEnd result = (result ≡ 0) ⊎ (result ≡ 3)

-- What it leaves of a disk that it could go on from: the undivided run's outputs, its last
-- checkpoint as the newest one, and no other end than the undivided run's. Where it is done, what
-- was computed and exchanged is what was left to do.
pub record Leaves (w : Work) (job : Job) (result : ℕ) : Type 0 where
  pub output : IsEnd result → HasWholeOutput (driven w job)
  pub last : IsEnd result → HasLast (driven w job)
  pub done : result ≡ 0 → end_of (setup_of job) w.rules ≡ Done
  pub ended : result ≡ 3 → end_of (setup_of job) w.rules ≢ Done
  pub work : result ≡ 0 → HasWorked (driven w job)

abbrev pub RunsWell : Call → ℕ → Type 0
RunsWell c result =
    (job : Job) → IsRun c job → CanGoOn c.work job → Leaves c.work job result

-- at every status: from trails each image of each moment is a trail
abbrev pub KeepsTrails : Call → Type 0
KeepsTrails c = (job : Job) → IsRun c job → WereTrails c.work job → LeavesTrails (driven c.work job)

-- and no more was counted than the run that goes on from what was found counts in all, where that
-- one comes to its end without a fault
abbrev pub RunsWithin : Call → Type 0
RunsWithin c = (job : Job) → IsRun c job → CountsNoMore (driven c.work job)

-- and a command on chunks leaves the trails of every run as they are
abbrev pub KeepsAllTrails : Call → Type 0
KeepsAllTrails c = (r : Request) (course : Course) → asked c.words ≡ Some r → OnChunks r.command
    → length course.outputs ≤ output_limit → AreTrails course c.work.disk.old
    → LeavesOnly c.work.disk.old c.work.disk.new (IsTrail course)

-- ---- what is printed

-- an answer was said that has its cause
pub record IsAnswered (c : Call) (sink : Lent (List ℕ)) (result : ℕ) : Type 0 where
  pub answer : Answer
  pub cause : Explains c answer
  pub said : WasSaid sink answer result

-- how long texts are together
abbrev pub length_of_all : List (List ℕ) → ℕ
length_of_all texts = total (map (λ (text : List ℕ). length text) texts)

-- `make` tells how long the undivided run's outputs are together, and how many cells live in its
-- last state
pub record IsToldOf (c : Call) (sink : Lent (List ℕ)) (job : Job) (seed size : ℕ) : Type 0 where
  pub live : ℤ
  pub live_is : LiveIs job (undivided_run (setup_of job) c.work.rules) live
  pub text_is : sink.tells → Adds
      (made_text job.itlast seed size (length_of_all (outputs (setup_of job) c.work.rules)) live)
      sink.old sink.new

-- where it is done, from a disk that it could go on from
abbrev pub SumsUp : Call → Lent (List ℕ) → ℕ → Type 0
SumsUp c sink result =
    (seed size : ℕ) (job : Job) (run : IsRun c job) → run.request.command ≡ Make seed size
    → CanGoOn c.work job → result ≡ 0 → IsToldOf c sink job seed size

-- ---- what isn't touched

-- no byte of the disk, at any moment, no queue, no count of the wire, and not the meter
pub record IsUntouched (w : Work) : Type 0 where
  pub disk : w.disk.tells → IsQuiet w.disk.old w.disk.new
  pub wire : w.wire.same
  pub meter : w.meter.new ≡ w.meter.old

pub record Spares (c : Call) (result : ℕ) : Type 0 where
  pub refused : (result ≡ 1) ⊎ ((result ≡ 2) ⊎ ((result ≡ 6) ⊎ (result ≡ 7)))
      → IsUntouched c.work
  pub wrong_use : asked c.words ≡ None → c.shelf.same × IsStill c.work
  pub other_command : (r : Request) → asked c.words ≡ Some r → (UsesDisk r.command → ⊥)
      → IsStill c.work
  pub chunks : (r : Request) → asked c.words ≡ Some r → OnChunks r.command → IsApart c.work
  pub no_job : (r : Request) (fault : JobFault) → asked c.words ≡ Some r → TellsFiles c r
      → Makes c r (Err fault) → IsStill c.work
  pub shelf : (r : Request) → asked c.words ≡ Some r → SparesShelf c.shelf r.command

-- ---- what must be answered

-- no device failed
pub record IsCalm (c : Call) (sink : Lent (List ℕ)) : Type 0 where
  pub shelf : HasRisen c.shelf.faults → ⊥
  pub disk : HasRisen c.work.disk.faults → ⊥
  pub wire : HasRisen c.work.wire.faults → ⊥
  pub sink_ : HasRisen sink.faults → ⊥

abbrev pub status_at : End → ℕ
status_at Done = 0
status_at (Overflow iteration path) = 3
status_at (WhileLimit iteration path) = 3
status_at (OutputLimit iteration) = 3

-- the files make no job
abbrev pub MakesNone : Call → Request → Type 0
MakesNone c r = (job : Job) → Makes c r (Ok job) → ⊥

-- the status that is due where no device fails and memory suffices
pub data Gives (c : Call) : ℕ → Type 0 where
  usage : asked c.words ≡ None → Gives c 1
  refused : (r : Request) → asked c.words ≡ Some r → TellsFiles c r → MakesNone c r → Gives c 2
  told : (r : Request) (job : Job) → asked c.words ≡ Some r → (UsesDisk r.command → ⊥)
      → TellsFiles c r → Makes c r (Ok job) → Gives c 0
  chunks : c.work.disk.tells → (r : Request) (job : Job) → asked c.words ≡ Some r
      → OnChunks r.command → TellsFiles c r → Makes c r (Ok job)
      → Gives c (status_by (files_fault r.command job c.work.disk.old.seen))
  recovery : AreTold c → (job : Job) (fault : BeginFault) → IsRun c job
      → begun job c.work.disk.old.seen ≡ Err fault → Gives c 6
  run : AreTold c → (job : Job) (found : Option Checkpoint) → IsRun c job
      → begun job c.work.disk.old.seen ≡ Ok found
      → Gives c (status_at (end_by (run_from (setup_of job) c.work.rules found).outcome))
  -- from trails on which no old output is too long to be split, or where old checkpoints are given
  -- up, unless a checkpoint is asked for and none is there
  well : AreTold c → (job : Job) → IsRun c job → StartsWell (driven c.work job)
      → begun job c.work.disk.old.seen ≢ Err NoCheckpoint
      → Gives c (status_at (end_of (setup_of job) c.work.rules))

-- refused for this fault, but for the cycle or the path that is shown
pub record IsRefusedFor (fault : JobFault) (sink : Lent (List ℕ)) (result : ℕ) : Type 0 where
  pub told : JobFault
  pub alike : without_witness told ≡ without_witness fault
  pub said : Says sink 2 (text_of (a.Refused told)) result

pub record Owes (c : Call) (sink : Lent (List ℕ)) (result : ℕ) : Type 0 where
  pub status : IsCalm c sink → (status : ℕ) → Gives c status → (result ≡ status) ⊎ (result ≡ 5)
  pub fault : (r : Request) (fault : JobFault) → asked c.words ≡ Some r → TellsFiles c r
      → Makes c r (Err fault) → (HasRisen c.shelf.faults → ⊥) → (HasRisen sink.faults → ⊥)
      → IsRefusedFor fault sink result ⊎ (result ≡ 5)
  pub sink_failed : sink.faults.old < sink.faults.new → result ≡ 4

-- ---- whatever is answered

-- the shelf's files are as they were, and no count falls: of faults, of computed points, and of
-- received values
pub record IsKept (c : Call) (sink : Lent (List ℕ)) : Type 0 where
  pub held : c.shelf.tells → c.shelf.new ≡ c.shelf.old
  pub shelf : c.shelf.faults.old ≤ c.shelf.faults.new
  pub disk : c.work.disk.faults.old ≤ c.work.disk.faults.new
  pub wire : c.work.wire.faults.old ≤ c.work.wire.faults.new
  pub sink_ : sink.faults.old ≤ sink.faults.new
  pub points : c.work.meter.old ≤ c.work.meter.new
  pub values : c.work.wire.old.received ≤ c.work.wire.new.received

-- ---- all of it

pub record Obeys (c : Call) (sink : Lent (List ℕ)) (result : ℕ) : Type 0 where
  pub run : AreTold c → RunsWell c result
  pub trails : AreTold c → KeepsTrails c
  pub all_trails : c.work.disk.tells → KeepsAllTrails c
  pub within : AreTold c → RunsWithin c
  pub printed : IsAnswered c sink result
  pub summed : AreTold c → SumsUp c sink result
  pub untouched : Spares c result
  pub owed : Owes c sink result
  pub kept : IsKept c sink
