-- The clauses of the top call for several files.
use Rattle.std.specs.Prelude.{◌≡◌, ◌⊎◌, ◌+◌, ◌^◌, ◌<◌, ◌≤◌, ℕ, IsTrue, List, ◌∷◌, sum, None, Some}
use Rattle.cx_plan.specs.declared.job.Job.{Job}
use Rattle.cx_rule.specs.Meter.{raised}
use Rattle.cx_job.specs.Making.{without_witness}
use Rattle.cx_job.specs.declared.fault.JobFault.{JobFault}
use Rattle.cx_run_loop.specs.Lent.{HasRisen}
use Rattle.cx_run.specs.Answers.{Says}
use Rattle.cx_run.specs.Calls.{Lent}
use Rattle.cx_run.specs.Texts.{usage_text}
use Rattle.cx_several.specs.Batches.{Batch, IsUntouched}
use Rattle.cx_several.specs.Faults.{jobs_fault}
use Rattle.cx_several.specs.Making.{AllMade, AreJobs, IsFirstFault, IsShelfKept, IsWhy}
use Rattle.cx_several.specs.Members.{AllGoOn, AreLeft, HaveRunAlone, Share, spent_on, statuses_of, texts_of}
use Rattle.cx_several.specs.Texts.{IsReplied, fault_status, fault_text, lines, status_in}
use Rattle.cx_several.specs.Words.{files_asked}
use Rattle.cx_several.specs.declared.fault.BatchFault.{BatchFault}
use Rattle.cx_several.specs.declared.fault.BatchFault.TheVariants as faults

-- ---- what came of a batch

-- the words name no files, and nothing but the sink was touched
pub record IsWrongUse {D W : Type 0} (words : List (List ℕ)) (c : Batch D W) (sink : Lent (List ℕ))
    (result : ℕ) : Type 0 where
  pub asks : files_asked words ≡ None
  pub shelf : c.shelf.same
  pub untouched : IsUntouched c
  pub said : IsReplied sink 1 usage_text result

-- the jobs aren't run, and nothing but the shelf and the sink was touched
pub record IsRefused {D W : Type 0} (words : List (List ℕ)) (c : Batch D W) (sink : Lent (List ℕ))
    (result : ℕ) : Type 0 where
  pub files : List (List ℕ)
  pub asks : files_asked words ≡ Some files
  pub fault : BatchFault
  pub why : IsWhy c.shelf c.specs files fault
  pub untouched : IsUntouched c
  pub said : IsReplied sink (fault_status fault) (fault_text fault) result

-- The jobs have taken turns, begun from 0: each is as after its run alone. The meter has counted
-- the sum, and a line of each is printed.
pub record HasTakenTurns {D W : Type 0} (c : Batch D W) (files : List (List ℕ))
    (sink : Lent (List ℕ)) (result : ℕ) : Type 0 where
  pub begun : c.begun ≡ Some 0
  pub shares : List Share
  pub each : HaveRunAlone c files shares c.disks.old c.disks.new c.wires.old c.wires.new
  pub meter : c.meter.new ≡ c.meter.old + spent_on shares
  pub said : IsReplied sink (status_in (statuses_of shares)) (lines files (texts_of shares)) result

-- the files make jobs that can be run together, and these have taken turns
pub record HasRun {D W : Type 0} (words : List (List ℕ)) (c : Batch D W) (sink : Lent (List ℕ))
    (result : ℕ) : Type 0 where
  pub files : List (List ℕ)
  pub asks : files_asked words ≡ Some files
  pub jobs : List Job
  pub are : AreJobs c.shelf c.specs files jobs
  pub turns : HasTakenTurns c files sink result

abbrev pub Comes : {D W : Type 0} → List (List ℕ) → Batch D W → Lent (List ℕ) → ℕ → Type 0
Comes words c sink result =
    IsWrongUse words c sink result ⊎ (IsRefused words c sink result ⊎ HasRun words c sink result)

-- ---- what all have counted

-- The meter, a number of 128 bits, has risen by the sum of what was left of the jobs. At its type's
-- end it stays.
pub record HasCounted {D W : Type 0} (c : Batch D W) (jobs : List Job) : Type 0 where
  pub points : List ℕ
  pub left : AreLeft c jobs c.disks.old points
  pub meter : c.meter.new < 2 ^ 128 → c.meter.new ≡ raised c.meter.old (sum points)

-- the shelf, the disks and the wires tell what they hold
pub record AreTold {D W : Type 0} (c : Batch D W) : Type 0 where
  pub shelf : c.shelf.tells
  pub disks : c.disk.tells
  pub wires : IsTrue c.wire.tells

-- where all jobs are done, and each could go on from its disk
abbrev pub CountsAll : {D W : Type 0} → List (List ℕ) → Batch D W → ℕ → Type 0
CountsAll words c result =
    (files : List (List ℕ)) (jobs : List Job) → files_asked words ≡ Some files
    → AllMade c.specs c.shelf.old files jobs → AllGoOn c jobs c.disks.old → result ≡ 0
    → HasCounted c jobs

-- ---- what must be answered

-- a file makes no job: that is said, but for the cycle or the path that is shown
pub record IsRefusedFor (file : List ℕ) (fault : JobFault) (sink : Lent (List ℕ)) (result : ℕ)
    : Type 0 where
  pub told : JobFault
  pub alike : without_witness told ≡ without_witness fault
  pub said : Says sink 2 (fault_text (faults.Job file told)) result

-- no device failed that a batch has for itself
pub record IsCalm {D W : Type 0} (c : Batch D W) (sink : Lent (List ℕ)) : Type 0 where
  pub shelf : HasRisen c.shelf.faults → ⊥
  pub sink_ : HasRisen sink.faults → ⊥

-- Each answer but 5 that is due where neither the shelf nor the sink fails, by the first row that
-- holds. Of a job's own status, HasRunAlone says what is due.
pub record Owes {D W : Type 0} (words : List (List ℕ)) (c : Batch D W) (sink : Lent (List ℕ))
    (result : ℕ) : Type 0 where
  pub usage : files_asked words ≡ None → (HasRisen sink.faults → ⊥)
      → Says sink 1 usage_text result ⊎ (result ≡ 5)
  pub only_usage : result ≡ 1 → files_asked words ≡ None
  pub unmade : IsCalm c sink → c.shelf.tells → (files : List (List ℕ)) (file : List ℕ)
      (fault : JobFault) → files_asked words ≡ Some files
      → IsFirstFault c.specs c.shelf.old files file fault
      → IsRefusedFor file fault sink result ⊎ (result ≡ 5)
  pub refused : IsCalm c sink → c.shelf.tells → (files : List (List ℕ)) (jobs : List Job)
      (fault : BatchFault) → files_asked words ≡ Some files
      → AllMade c.specs c.shelf.old files jobs → jobs_fault files jobs ≡ Some fault
      → Says sink 2 (fault_text fault) result ⊎ (result ≡ 5)
  pub turns : IsCalm c sink → c.shelf.tells → (files : List (List ℕ)) (jobs : List Job)
      → files_asked words ≡ Some files → AllMade c.specs c.shelf.old files jobs
      → jobs_fault files jobs ≡ None → HasTakenTurns c files sink result ⊎ (result ≡ 5)
  pub sink_failed : sink.faults.old < sink.faults.new → result ≡ 4

-- ---- all of it

-- the shelf's files are as they were, and no count falls
pub record IsKept {D W : Type 0} (c : Batch D W) (sink : Lent (List ℕ)) : Type 0 where
  pub shelf : IsShelfKept c.shelf
  pub sink_ : sink.faults.old ≤ sink.faults.new
  pub points : c.meter.old ≤ c.meter.new

pub record ObeysAll {D W : Type 0} (words : List (List ℕ)) (c : Batch D W) (sink : Lent (List ℕ))
    (result : ℕ) : Type 0 where
  pub comes : Comes words c sink result
  pub counted : AreTold c → CountsAll words c result
  pub owed : Owes words c sink result
  pub kept : IsKept c sink

-- ---- other words

-- this holds of the first disk and the first wire, each before and after; the others are as they
-- were
abbrev pub OnFirst : {D W : Type 0} → (D → D → W → W → Type 0) → (disks disks_after : List D)
    → (wires wires_after : List W) → Type 0
OnFirst holds (a ∷ was) (b ∷ is) (v ∷ vs) (u ∷ us) = holds a b v u × ((is ≡ was) × (us ≡ vs))
OnFirst holds was is vs us = ⊥
