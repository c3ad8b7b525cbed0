-- What comes of each job of a batch.
use Rattle.std.specs.Prelude.{◌≡◌, ◌⊎◌, ◌+◌, ◌≤◌, ℕ, List, [], ◌∷◌, map, sum, ◌++◌, Option, Some, Result, IfOk}
use Rattle.cx_plan.specs.Setups.{setup_of}
use Rattle.cx_plan.specs.declared.job.Job.{Job}
use Rattle.cx_plan.specs.declared.job.Recover.TheVariants.{No}
use Rattle.cx_text.specs.declared.memory.Memory.{Memory}
use Rattle.cx_disk.specs.declared.disk.Disk.{Ghosts as DiskGhosts}
use Rattle.cx_wire.specs.declared.wire.Wire.{Ghosts as WireGhosts}
use Rattle.cx_rule.specs.Routine.{Rule}
use Rattle.cx_rule.specs.declared.spec.Spec.{Spec}
use Rattle.cx_cut.specs.Cuts.{Parts}
use Rattle.cx_keep.specs.Resuming.{AreTrails}
use Rattle.law_course.specs.Beginnings.{entries_from}
use Rattle.law_course.specs.Starts.{course_in}
use Rattle.cx_run_loop.specs.Lent.{Count}
use Rattle.cx_run_loop.specs.Drives.{IsFirstCut, ResumesFrom}
use Rattle.cx_run_loop.specs.Recuts.{cut_from}
use Rattle.cx_run_loop.specs.Sums.{work_in}
use Rattle.cx_run_batch.specs.Members.{HaveRun, jobs_of, spent_by}
use Rattle.cx_run_batch.specs.declared.member.Member.{Member}
use Rattle.cx_run_batch.specs.declared.stage.Stage.{Stage}
use Rattle.cx_run_batch.specs.declared.stage.Stage.TheVariants.{Going, Over}
use Rattle.cx_run.specs.Answers.{AnswersRun, status_of, text_of}
use Rattle.cx_run.specs.Calls.{Lent}
use Rattle.cx_run.specs.Clauses.{Obeys}
use Rattle.cx_run.specs.declared.reply.Answer.{Answer}
use Rattle.cx_run.specs.declared.words.Command.TheVariants.{Run}
use Rattle.cx_several.specs.Batches.{Batch, Both, IsUntouched, Place, alone, place}
use Rattle.cx_several.specs.Making.{AreJobs, IsWhy}
use Rattle.cx_several.specs.Texts.{fault_status, fault_text, line, lines, status_in}
use Rattle.cx_several.specs.declared.fault.BatchFault.{BatchFault}
use Rattle.cx_several.specs.declared.reply.Reply.{Reply}

-- ---- its share

-- the text and the status of a job's run, and how many points the meter has counted for it
pub record Share : Type 0 where
  pub text : List ℕ
  pub status : ℕ
  pub spent : ℕ

-- a sink that holds this text alone, and didn't fail
abbrev pub sink_of : List ℕ → Lent (List ℕ)
sink_of text = record {
  tells = Unit {0};
  same = Unit {0};
  old = [];
  new = text;
  faults = record { old = 0; new = 0 };
}

-- It is as after `run` of its file alone, on the disk and the wire at its place: all clauses of
-- that call hold, with this status and this text. The meter of that call has counted what the
-- batch's has counted for this job, and has come no further.
pub record HasRunAlone {D W : Type 0} (c : Batch D W) (file : List ℕ) (p : Place D W) (s : Share)
    : Type 0 where
  pub meter : Count
  pub spent : meter.old + s.spent ≡ meter.new
  pub within : meter.new ≤ c.meter.new
  pub obeys : Obeys (alone c file p meter) (sink_of s.text) s.status

-- so are all jobs; the disks and wires after them are as they were
abbrev pub HaveRunAlone : {D W : Type 0} → Batch D W → List (List ℕ) → List Share
    → (disks disks_after : List D) → (wires wires_after : List W) → Type 0
HaveRunAlone c [] [] was is vs us = (is ≡ was) × (us ≡ vs)
HaveRunAlone c (file ∷ files) (s ∷ ss) (a ∷ was) (b ∷ is) (v ∷ vs) (u ∷ us) =
    HasRunAlone c file (place a b v u) s × HaveRunAlone c files ss was is vs us
HaveRunAlone c files ss was is vs us = ⊥

abbrev pub texts_of : List Share → List (List ℕ)
texts_of ss = map (λ (s : Share). s.text) ss

abbrev pub statuses_of : List Share → List ℕ
statuses_of ss = map (λ (s : Share). s.status) ss

abbrev pub spent_on : List Share → ℕ
spent_on ss = sum (map (λ (s : Share). s.spent) ss)

-- ---- what they counted

-- a run of a job on a disk can go on from each image that it has, or gives up old checkpoints
abbrev pub GoesOn : {D W : Type 0} → Batch D W → Job → D → Type 0
GoesOn c job disk =
    AreTrails (course_in job c.rules) (c.disk.view disk) ⊎ (job.recover ≡ No)

-- So many points are left to compute of a job, from where it resumes on a disk. Where it is
-- balanced, what follows each checkpoint is counted by the cut after it.
pub record IsLeft {D W : Type 0} (c : Batch D W) (job : Job) (disk : D) (points : ℕ) : Type 0 where
  pub start : Option ℕ
  pub start_is : ResumesFrom job.recover (c.disk.view disk).seen start
  pub cut : Parts
  pub cut_is : IsFirstCut job c.rules c.specs start cut
  pub points_are : points
      ≡ work_in (setup_of job) (cut_from c.specs job) cut
      (entries_from (setup_of job) c.rules start)

abbrev pub AllGoOn : {D W : Type 0} → Batch D W → List Job → List D → Type 0
AllGoOn c [] disks = Unit {0}
AllGoOn c (job ∷ jobs) [] = ⊥
AllGoOn c (job ∷ jobs) (disk ∷ disks) = GoesOn c job disk × AllGoOn c jobs disks

abbrev pub AreLeft : {D W : Type 0} → Batch D W → List Job → List D → List ℕ → Type 0
AreLeft c [] disks [] = Unit {0}
AreLeft c (job ∷ jobs) (disk ∷ disks) (n ∷ ns) = IsLeft c job disk n × AreLeft c jobs disks ns
AreLeft c jobs disks ns = ⊥

-- ---- from members that are over

-- the answer to a run that is over, or want of memory; to one that goes on there is none
abbrev pub AnswersStage : Job → Stage → Answer → Type 0
AnswersStage job (Going run) answer = Unit {0}
AnswersStage job (Over came) answer = AnswersRun Run job came answer

-- each member's
abbrev pub AnswersAll : List Member → List Answer → Type 0
AnswersAll [] [] = Unit {0}
AnswersAll (m ∷ ms) (x ∷ xs) = AnswersStage m.job m.stage x × AnswersAll ms xs
AnswersAll ms xs = ⊥

abbrev pub answer_texts : List Answer → List (List ℕ)
answer_texts xs = map text_of xs

abbrev pub answer_statuses : List Answer → List ℕ
answer_statuses xs = map status_of xs

-- a line was put after a text for a member's run
pub record HasLine (file : List ℕ) (m : Member) (old new : List ℕ) (status : ℕ) : Type 0 where
  pub answer : Answer
  pub is : AnswersStage m.job m.stage answer
  pub text_is : new ≡ old ++ line file (text_of answer)
  pub status_is : status ≡ status_of answer

-- lines were added for these members, and this is the status
pub record AddsLines (files : List (List ℕ)) (ms : List Member) (added : List ℕ) (status : ℕ)
    : Type 0 where
  pub answers : List Answer
  pub are : AnswersAll ms answers
  pub lines_are : added ≡ lines files (answer_texts answers)
  pub status_is : status ≡ status_in (answer_statuses answers)

-- they were put after a text
pub record HasAdded (files : List (List ℕ)) (ms : List Member) (old new : List ℕ) (status : ℕ)
    : Type 0 where
  pub added : List ℕ
  pub new_is : new ≡ old ++ added
  pub lines : AddsLines files ms added status

-- what is replied for them
abbrev pub RepliesTo : List (List ℕ) → List Member → Reply → Type 0
RepliesTo files ms reply = AddsLines files ms reply.text reply.status

-- The runs of these members are over, each on the disk and the wire at its place. The meter has
-- counted what all have spent, and the reply has a line of each.
pub record HaveEnded {D W : Type 0} (d : DiskGhosts D) (w : WireGhosts W) (rules : List Rule)
    (specs : List Spec) (files : List (List ℕ)) (ms : List Member) (disks : Both D)
    (wires : Both W) (meter : Count) (reply : Result Reply Memory) : Type 0 where
  pub members : List Member
  pub jobs : jobs_of members ≡ jobs_of ms
  pub ran : HaveRun d w rules specs members disks.old disks.new wires.old wires.new meter.new
  pub counts : meter.new ≡ meter.old + spent_by members
  pub reply_is : IfOk reply (RepliesTo files members)

-- ---- the reply to a batch

-- the jobs aren't run: why, and nothing but the shelf was touched
pub record IsRefusedBy {D W : Type 0} (c : Batch D W) (files : List (List ℕ))
    (reply : Result Reply Memory) : Type 0 where
  pub fault : BatchFault
  pub why : IsWhy c.shelf c.specs files fault
  pub untouched : IsUntouched c
  pub reply_is : IfOk reply
      (λ r. (r.status ≡ fault_status fault) × (r.text ≡ fault_text fault))

-- they have taken turns, begun from 0
pub record HaveTurned {D W : Type 0} (c : Batch D W) (files : List (List ℕ))
    (reply : Result Reply Memory) : Type 0 where
  pub jobs : List Job
  pub are : AreJobs c.shelf c.specs files jobs
  pub begun : c.begun ≡ Some 0
  pub shares : List Share
  pub each : HaveRunAlone c files shares c.disks.old c.disks.new c.wires.old c.wires.new
  pub meter : c.meter.new ≡ c.meter.old + spent_on shares
  pub reply_is : IfOk reply (λ r. (r.status ≡ status_in (statuses_of shares))
      × (r.text ≡ lines files (texts_of shares)))

abbrev pub RepliesFor : {D W : Type 0} → Batch D W → List (List ℕ) → Result Reply Memory → Type 0
RepliesFor c files reply = IsRefusedBy c files reply ⊎ HaveTurned c files reply
