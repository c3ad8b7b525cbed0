-- What stands behind each answer.
use Rattle.std.specs.Prelude.{◌≡◌, ◌≢◌, ◌⊎◌, ℕ, ℤ, List, length, map, Option, None, Some, Result, Ok, Err}
use Rattle.std.specs.List.{range_with_len}
use Rattle.cx_disk.specs.Disk.{Files, IsNamed}
use Rattle.cx_plan.specs.Setups.{setup_of}
use Rattle.cx_outputs.specs.Names.{output_count, output_names}
use Rattle.cx_plan.specs.Whole.{IsWhole}
use Rattle.cx_plan.specs.declared.job.Job.{Job}
use Rattle.cx_plan.specs.declared.job.Recover.TheVariants.{No}
use Rattle.cx_rule.specs.Jobs.{FitJob}
use Rattle.cx_rule.specs.States.{State, scalar_of}
use Rattle.cx_rule.specs.declared.spec.Spec.{Spec}
use Rattle.cx_model.specs.Runs.{undivided_run, end as end_of, end_by}
use Rattle.cx_model.specs.Traces.{Trace, Goes}
use Rattle.cx_model.specs.declared.ends.End.{End}
use Rattle.cx_model.specs.declared.ends.End.TheVariants.{Done}
use Rattle.cx_chk.specs.declared.checkpoint.Checkpoint.{Checkpoint}
use Rattle.cx_keep.specs.Tests.{begun}
use Rattle.cx_keep.specs.Resuming.{AreTrails}
use Rattle.cx_keep.specs.Trails.{NewestIs, file_of_output, total}
use Rattle.law_course.specs.Beginnings.{run_from}
use Rattle.law_course.specs.Starts.{BeginsOn}
use Rattle.law_course.specs.Works.{LastIs}
use Rattle.cx_job.specs.Making.{Made, Makes as MakesWith}
use Rattle.cx_job.specs.declared.fault.JobFault.{JobFault}
use Rattle.cx_run_loop.specs.Lent.{HasRisen}
use Rattle.cx_run_loop.specs.Drives.{Drive, course, AreTold, CountsNoMore, HasWholeOutput, HasWorked, IsRefused, LeavesTrails}
use Rattle.cx_run.specs.Answers.{answer_of}
use Rattle.cx_job_files.specs.Shelf.{Held}
use Rattle.cx_run_made.specs.Summaries.{live_variable}
use Rattle.cx_run.specs.Calls.{Lent, Work, Call, IsStill, Runs, SparesShelf, driven, live_by, shelf_for}
use Rattle.cx_run.specs.Chunks.{HasChunked, HasFileFault, HasRecombined, IsApart, OnChunks, UsesDisk}
use Rattle.cx_run.specs.Texts.{command_text}
use Rattle.cx_run.specs.Words.{Request, asked}
use Rattle.cx_run.specs.declared.reply.Answer.{Answer}
use Rattle.cx_run.specs.declared.reply.Answer.TheVariants as a
use Rattle.cx_run.specs.declared.words.Command.{Command}
use Rattle.cx_run.specs.declared.words.Command.TheVariants.{Run, Make}

-- each image of the disk was a trail of the job
abbrev pub WereTrails : Work → Job → Type 0
WereTrails w job = AreTrails (course (driven w job)) w.disk.old

-- or old checkpoints are given up
abbrev pub CanGoOn : Work → Job → Type 0
CanGoOn w job = WereTrails w job ⊎ (job.recover ≡ No)

-- ---- a run that came to its end

-- the last checkpoint of the run is the newest one of each image
abbrev pub HasLast : Drive → Type 0
HasLast d =
    (image : Files) → d.disk.new.images image
    → (n : Option ℕ) × NewestIs image n × LastIs (course d) n

-- from a disk that it can go on from: the undivided run's outputs and end, and its work where it is
-- done
pub record HasCome (d : Drive) (end : End) : Type 0 where
  pub output : HasWholeOutput d
  pub end_is : end_of (setup_of d.job) d.rules ≡ end
  pub work : end ≡ Done → HasWorked d
  pub last : HasLast d

-- The run began with the checkpoint that was found on the disk, or with none, and ended as the
-- undivided run does from there, in the job's folders and files.
pub record HasRun (w : Work) (job : Job) (end : End) : Type 0 where
  pub found : Option Checkpoint
  pub began : w.disk.tells → begun job w.disk.old.seen ≡ Ok found
  pub ends : AreTold (driven w job) → end_by (run_from (setup_of job) w.rules found).outcome ≡ end
  pub come : AreTold (driven w job) → CanGoOn w job → HasCome (driven w job) end
  pub folders : IsNamed job.out_dir (output_names (setup_of job)) job.chk_dir w.folders

-- how many cells live in the last state of a run that is done
abbrev pub LiveIs : Job → Trace → ℤ → Type 0
LiveIs job run live = (state : State) → run.outcome ≡ Goes state
    → live ≡ live_by (live_variable (setup_of job)) (scalar_of state)

-- how long the files of so many outputs are together
abbrev pub length_of_files : ℕ → Files → ℕ
length_of_files count files =
    total (map (λ (j : ℕ). length (files (file_of_output j))) (range_with_len 0 count))

-- What is told of a run that is done: how long the outputs' files are together, and how many cells
-- live in the last state of the run, and of the undivided run where it went on from trails.
pub record IsSummed (w : Work) (job : Job) (found : Option Checkpoint) (output : ℕ) (live : ℤ)
    : Type 0 where
  pub output_is : w.disk.tells
      → output ≡ length_of_files (output_count (setup_of job)) w.disk.new.seen
  pub ran : AreTold (driven w job) → LiveIs job (run_from (setup_of job) w.rules found) live
  pub undivided : AreTold (driven w job) → CanGoOn w job
      → LiveIs job (undivided_run (setup_of job) w.rules) live

-- ---- a command with a job

-- a run of a file that is done
pub record IsDone (w : Work) (command : Command) (job : Job) (iteration : ℕ) : Type 0 where
  pub command_is : command ≡ Run
  pub last : iteration ≡ job.itlast
  pub run : HasRun w job Done

-- a run that was made is done
pub record IsMade (w : Work) (command : Command) (job : Job) (iteration seed size output : ℕ)
    (live : ℤ) : Type 0 where
  pub command_is : command ≡ Make seed size
  pub last : iteration ≡ job.itlast
  pub run : HasRun w job Done
  pub sums : IsSummed w job run.found output live

-- a run that came to another end
pub record IsEnded (w : Work) (command : Command) (job : Job) (end : End) : Type 0 where
  pub runs : Runs command
  pub other : end ≢ Done
  pub run : HasRun w job end

-- a command that doesn't use the disk has this text
pub record IsTold (w : Work) (command : Command) (job : Job) (text : List ℕ) : Type 0 where
  pub other : UsesDisk command → ⊥
  pub text_is : text ≡ command_text command job
  pub still : IsStill w

-- what comes of it
abbrev pub Comes : Work → Command → Job → Answer → Type 0
Comes w command job (a.Done iteration) = IsDone w command job iteration
Comes w command job (a.Made iteration seed size output live) =
    IsMade w command job iteration seed size output live
Comes w command job (a.Text text) = IsTold w command job text
Comes w command job (a.Ended end) = IsEnded w command job end
Comes w command job (a.Recovery fault) = Runs command × IsRefused (driven w job) fault
Comes w command job (a.Chunked done) = HasChunked w command job done
Comes w command job (a.Recombined done) = HasRecombined w command job done
Comes w command job (a.Chunks fault) = HasFileFault w command job fault
Comes w command job a.Disk = UsesDisk command × HasRisen w.disk.faults
Comes w command job a.Wire = Runs command × HasRisen w.wire.faults
Comes w command job a.Memory = (UsesDisk command → ⊥) → IsStill w
Comes w command job a.Usage = ⊥
Comes w command job (a.Refused fault) = ⊥
Comes w command job a.Shelf = ⊥

-- A run that began on trails is refused only where a checkpoint is asked for and there is none, and
-- leaves trails at each moment. However a run stops, it has counted no more than one that doesn't. A
-- command on chunks leaves alone what isn't one of their files.
pub record ComesTo (w : Work) (command : Command) (job : Job) (answer : Answer) : Type 0 where
  pub cause : Comes w command job answer
  pub begins : Runs command → w.disk.tells → WereTrails w job → BeginsOn job w.rules w.disk.old.seen
  pub trails : Runs command → AreTold (driven w job) → WereTrails w job
      → LeavesTrails (driven w job)
  pub within : Runs command → AreTold (driven w job) → CountsNoMore (driven w job)
  pub apart : OnChunks command → IsApart w

-- ---- what was asked for

-- `make_job` answers so, on this shelf
abbrev pub MakesOn : Lent Held → List ℕ → List Spec → Result Job JobFault → Type 0
MakesOn s file specs found =
    MakesWith s.tells (Made file specs) s.old s.new s.faults.old s.faults.new found

-- on the shelf that a request reads
abbrev pub MakesAs : Call → Request → Result Job JobFault → Type 0
MakesAs c r found = MakesOn (shelf_for c.shelf r.command) r.file c.work.specs found

-- what follows for a job that was made
pub record FollowsJob (c : Call) (command : Command) (job : Job) (answer : Answer) : Type 0 where
  pub whole : IsWhole job
  pub fit : FitJob c.work.specs job
  pub comes : ComesTo c.work command job answer

-- and for a fault: it is the answer, and nothing but the shelf was touched
pub record FollowsFault (c : Call) (fault : JobFault) (answer : Answer) : Type 0 where
  pub answer_is : answer ≡ answer_of fault
  pub still : IsStill c.work

abbrev pub Follows : Call → Command → Result Job JobFault → Answer → Type 0
Follows c command (Ok job) answer = FollowsJob c command job answer
Follows c command (Err fault) answer = FollowsFault c fault answer

-- the turns of a run begin from the seed that the words give
abbrev pub TurnsBegin : Call → Request → Result Job JobFault → Type 0
TurnsBegin c r (Ok job) = Runs r.command → c.begun ≡ Some r.seed
TurnsBegin c r (Err fault) = Unit {0}

-- what `make_job` answered for a request, and what follows
pub record IsAsked (c : Call) (answer : Answer) : Type 0 where
  pub request : Request
  pub asks : asked c.words ≡ Some request
  pub found : Result Job JobFault
  pub shelf : SparesShelf c.shelf request.command
  pub makes : MakesAs c request found
  pub follows : Follows c request.command found answer
  pub turns : TurnsBegin c request found

-- the words ask for nothing that there is, and nothing was touched
pub record IsWrongUse (c : Call) (answer : Answer) : Type 0 where
  pub words : asked c.words ≡ None
  pub answer_is : answer ≡ a.Usage
  pub shelf : c.shelf.same
  pub still : IsStill c.work

abbrev pub Explains : Call → Answer → Type 0
Explains c answer = IsWrongUse c answer ⊎ IsAsked c answer
