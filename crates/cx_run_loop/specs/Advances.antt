-- What comes of some turns of a run.
use Rattle.std.specs.Prelude.{ℕ, ◌≡◌, ◌≢◌, ◌≤◌, ◌<◌, IsTrue, All, List, [], ◌∷◌, ◌++◌, length, Option, Some}
use Rattle.cx_plan.specs.declared.job.Job.{Job}
use Rattle.cx_plan.specs.Setups.{setup_of}
use Rattle.cx_cut.specs.Cuts.{part_count}
use Rattle.cx_cut.specs.Faults.{parts_of}
use Rattle.cx_outputs.specs.Names.{output_count, output_names}
use Rattle.cx_rule.specs.Routine.{Rule}
use Rattle.cx_rule.specs.States.{State}
use Rattle.cx_model.specs.Traces.{Entry, Saved as SavedState}
use Rattle.cx_disk.specs.Disk.{View}
use Rattle.cx_disk.specs.Files.{count_with}
use Rattle.cx_disk.specs.declared.disk.Disk.{Ghosts as DiskGhosts}
use Rattle.cx_wire.specs.declared.wire.Wire.{Ghosts as WireGhosts}
use Rattle.cx_turns.specs.declared.turns.Turns.{Ghosts as TurnsGhosts}
use Rattle.cx_chk.specs.declared.checkpoint.Checkpoint.{Checkpoint}
use Rattle.cx_keep.specs.Trails.{NewestIs}
use Rattle.law_course.specs.Courses.{checkpoint_of}
use Rattle.law_course.specs.Works.{KeptRun, lengths_done}
use Rattle.cx_core.specs.declared.answers.Event.{Event}
use Rattle.cx_core.specs.declared.answers.Event.TheVariants.{Part, Section, Save, End}
use Rattle.cx_core.specs.declared.answers.Outcome.{Outcome}
use Rattle.cx_core.specs.declared.answers.Outcome.TheVariants.{Going}
use Rattle.cx_core.specs.Left.{steps_left}
use Rattle.cx_core.specs.Steps.{Counts, counts}
use Rattle.cx_run_loop.specs.Going.{Setting, Place, IsDriven, IsDriving, IsGoing, LeavesImages, Moves, MovesOn, handed, kept_in, place_at, setting}
use Rattle.cx_run_loop.specs.Lent.{wired}
use Rattle.cx_run_loop.specs.Turning.{StepsBy, Turning, turning}
use Rattle.cx_run_loop.specs.UnderWay.{Runs}
use Rattle.cx_run_loop.specs.Within.{StaysWithin}
use Rattle.cx_run_loop.specs.declared.turn.Advance.{Advance}
use Rattle.cx_run_loop.specs.declared.turn.Advance.TheVariants.{More, Saved, Over}

-- ---- the events of a call

-- what comes of an event
abbrev pub came_of : Event → Advance
came_of (Part k) = More
came_of (Section v iteration) = More
came_of (Save iteration) = Saved
came_of End = Over

-- The events of a call, which asks for at most so many, and its answer: that is what comes of the
-- last one. None of those before it was a checkpoint or the end. It is More only after all that
-- were asked for.
pub record AnswersBy (most : ℕ) (came : Advance) (events : List Event) : Type 0 where
  pub before : List Event
  pub last : Event
  pub events_are : events ≡ before ++ last ∷ []
  pub go_on : All (λ (e : Event). came_of e ≡ More) before
  pub came_is : came ≡ came_of last
  pub few : length events ≤ most
  pub all : came ≡ More → length events ≡ most

-- it is over after Over, and goes on after the others
abbrev pub FitsOutcome : Advance → Outcome → Type 0
FitsOutcome More outcome = outcome ≡ Going
FitsOutcome Saved outcome = outcome ≡ Going
FitsOutcome Over outcome = outcome ≢ Going

-- ---- a checkpoint that was just saved

-- The last work that was done is that of this checkpoint of the run, which is the newest of the
-- disk.
pub record HasSaved (r : KeptRun) (c : Checkpoint) (done : List Entry) (v : View) : Type 0 where
  pub before : List Entry
  pub state : State
  pub last : done ≡ before ++ SavedState c.iteration state ∷ []
  pub checkpoint : c ≡ checkpoint_of r.setup r.key c.iteration state (lengths_done r before)
  pub newest : NewestIs v.seen (Some c.iteration)

-- from one place to another at which a checkpoint was just saved: the core has it still
pub record Saves (s : Setting) (found : Option Checkpoint) (first : Counts) (was is : Place s)
    (x : IsDriving s found first was) : Type 0 where
  pub moves : Moves s found first was is x
  pub saved : s.disk → s.wire → IsDriven (kept_in s found) (handed x) was.view
      → HasSaved (kept_in s found) is.is.core.buffers.state (handed moves.there) is.view

abbrev pub SavesOn : (s : Setting) (was is : Place s) → Type 0
SavesOn s was is =
    (found : Option Checkpoint) (first : Counts) (x : IsDriving s found first was)
    → Saves s found first was is x

-- ---- a call that moves a run on

-- a run between two calls, and what it is lent: its disk, its wire, and what the meter has counted
pub record RunState (D W : Type 0) : Type 0 where
  pub run : Runs
  pub disk : D
  pub wire : W
  pub meter : ℕ

abbrev pub run_state : {D W : Type 0} → Runs → D → W → ℕ → RunState D W
run_state run disk wire meter = record { run = run; disk = disk; wire = wire; meter = meter }

abbrev pub place_of :
    {D W : Type 0} → (d : DiskGhosts D) → (w : WireGhosts W) → (job : Job) → (rules : List Rule)
    → RunState D W → Place (setting d w job rules)
place_of d w job rules x = place_at d w x.run.core x.disk x.wire x.meter

-- where it is, with its source of turns
abbrev pub turning_of :
    {D W T : Type 0} → (w : WireGhosts W) → RunState D W → T → Turning (IsTrue w.tells) T
turning_of w x turns = turning x.run.core (wired w x.wire) x.meter turns

-- it can be moved on: over a disk that is mounted with the job's files, and a wire with room for
-- its parts
pub record CanAdvance {D W : Type 0} (d : DiskGhosts D) (w : WireGhosts W) (job : Job)
    (rules : List Rule) (x : RunState D W) : Type 0 where
  pub parts : part_count (parts_of job.shape job.cut) ≤ w.parts x.wire
  pub mounted : IsTrue (d.mounted x.disk)
  pub files : d.file_count x.disk ≡ count_with (output_count (setup_of job))
  pub names : (d.folders x.disk).names ≡ output_names (setup_of job)
  pub going : IsGoing (setting d w job rules) x.run.keeper (place_of d w job rules x)

-- Whatever a call answers: each moment has left images of the run, and the disk is mounted as
-- before. Neither the meter nor the wire's count of received values has fallen, and both are within
-- what the run counts in all.
pub record Keeps {D W : Type 0} (d : DiskGhosts D) (w : WireGhosts W) (job : Job)
    (rules : List Rule) (was : RunState D W) (disk : D) (wire : W) (meter : ℕ) : Type 0 where
  pub moments : LeavesImages (setting d w job rules) (place_of d w job rules was) (d.view disk)
  pub parts : w.parts wire ≡ w.parts was.wire
  pub mounted : IsTrue (d.mounted disk)
  pub files : d.file_count disk ≡ count_with (output_count (setup_of job))
  pub folders : d.folders disk ≡ d.folders was.disk
  pub points : was.meter ≤ meter
  pub values : w.received was.wire ≤ w.received wire
  pub within : StaysWithin (setting d w job rules) (place_of d w job rules was)
      (counts meter (w.received wire) (w.sum wire))

-- Where it answers: it has moved the run on by at most so many events, each the one that the source
-- of turns picks, with less left to do.
pub record Advances {D W T : Type 0} (d : DiskGhosts D) (w : WireGhosts W) (t : TurnsGhosts T)
    (job : Job) (rules : List Rule) (most : ℕ) (was is : RunState D W) (turns turns_after : T)
    (came : Advance) : Type 0 where
  pub events : List Event
  pub steps : StepsBy t (IsTrue w.tells) job rules events (turning_of w was turns)
      (turning_of w is turns_after)
  pub answers : AnswersBy most came events
  pub over : FitsOutcome came is.run.core.outcome
  pub moves : MovesOn (setting d w job rules) (place_of d w job rules was)
      (place_of d w job rules is)
  pub saved : came ≡ Saved → SavesOn (setting d w job rules) (place_of d w job rules was)
      (place_of d w job rules is)
  pub going : IsGoing (setting d w job rules) is.run.keeper (place_of d w job rules is)
  pub less : steps_left (setup_of job) is.run.core.pace
      < steps_left (setup_of job) was.run.core.pace
