-- Where a run is between two turns: its core, and what its keeper has written.
use Rattle.std.specs.Prelude.{ℕ, ◌≡◌, ◌≢◌, ◌⊎◌, IsTrue, List, [], Option}
use Rattle.cx_plan.specs.declared.job.Job.{Job}
use Rattle.cx_plan.specs.Setups.{Setup, setup_of}
use Rattle.cx_rule.specs.Routine.{Rule}
use Rattle.cx_model.specs.Traces.{Entry, Trace}
use Rattle.cx_disk.specs.Disk.{Files, View, LeavesOnly}
use Rattle.cx_disk.specs.Moments.{IsQuiet}
use Rattle.cx_disk.specs.declared.disk.Disk.{Ghosts as DiskGhosts}
use Rattle.cx_wire.specs.declared.wire.Wire.{Ghosts as WireGhosts}
use Rattle.cx_chk.specs.declared.checkpoint.Checkpoint.{Checkpoint}
use Rattle.cx_chk.specs.Slots.{SlotsSettled, OutputsSame}
use Rattle.cx_keep.specs.Keeping.{Keeper, IsAppended, AppendMoments, SaveStands, SaveMoments}
use Rattle.cx_keep.specs.Trails.{Counts as AreCounted, IsTrailOf, OutputsSettled, Stands as KeeperStands}
use Rattle.law_parts.specs.Beginnings.{IsBeginning, run_of}
use Rattle.law_parts.specs.Runs.{Run}
use Rattle.law_parts.specs.Totals.{undivided_from}
use Rattle.law_reached.specs.Works.{works_of, handed_out}
use Rattle.cx_core_buffers.specs.Gathering.{piece_of}
use Rattle.cx_core.specs.declared.answers.Event.{Event}
use Rattle.cx_core.specs.declared.answers.Event.TheVariants.{Part, Section, Save, End}
use Rattle.cx_core.specs.declared.answers.Outcome.TheVariants.{Going}
use Rattle.cx_core.specs.Cores.{Cores}
use Rattle.cx_core.specs.Hands.{Leaves, Stands}
use Rattle.cx_core.specs.Starts.{begins_in}
use Rattle.cx_core.specs.Steps.{Counts, Standing, IsAt, IsRunning, stands_at}
use Rattle.cx_core.specs.Texts.{text_of_piece}
use Rattle.law_course.specs.Beginnings.{IsFound}
use Rattle.cx_outputs.specs.Names.{output_count, place_in}
use Rattle.law_course.specs.Works.{KeptRun, kept_run, course_by, HasDone, FilesAre, newest_of, next_of}

-- a job's run by these rules, and whether wire and disk tell what they hold
pub record Setting : Type 1 where
  pub job : Job
  pub rules : List Rule
  pub wire : Type 0
  pub disk : Type 0

-- where it is
pub record Place (s : Setting) : Type 1 where
  pub is : Standing s.wire
  pub view : View

-- over a disk and a wire of types with these ghost members
abbrev pub setting : {D W : Type 0} → DiskGhosts D → WireGhosts W → Job → List Rule → Setting
setting d w job rules = record { job = job; rules = rules; wire = IsTrue w.tells; disk = d.tells }

-- where it is by its core, its disk, its wire and its meter
abbrev pub place_at :
    {D W : Type 0} → (d : DiskGhosts D) → (w : WireGhosts W) → {job : Job} → {rules : List Rule}
    → Cores → D → W → ℕ → Place (setting d w job rules)
place_at d w core disk wire meter = record {
  is = stands_at core (w.queue wire) meter (w.received wire) (w.sum wire);
  view = d.view disk;
}

-- ---- from the checkpoint that was found, or none

abbrev pub run_in : Setting → Option Checkpoint → Run
run_in s found = run_of s.job s.rules (begins_in (setup_of s.job) found)

abbrev pub trace_in : Setting → Option Checkpoint → Trace
trace_in s found = undivided_from (setup_of s.job) s.rules (begins_in (setup_of s.job) found)

abbrev pub kept_in : Setting → Option Checkpoint → KeptRun
kept_in s found = kept_run (setup_of s.job) s.job.key s.rules found

-- where the core is, which has counted from there on; once the run is over all works are handed out
pub record IsDriving (s : Setting) (found : Option Checkpoint) (first : Counts)
    (p : Place s) : Type 0 where
  pub begins : IsBeginning (setup_of s.job) (begins_in (setup_of s.job) found)
  pub at : IsAt s.wire (run_in s found) first p.is.core p.is.queue p.is.now
  pub over : s.wire → p.is.core.outcome ≢ Going
      → works_of (trace_in s found).entries ≡ handed_out (run_in s found) at.world

abbrev pub handed : {s : Setting} {found : Option Checkpoint} {first : Counts} {p : Place s}
    → IsDriving s found first p → List Entry
handed {s} {found} {first} {p} x = handed_out (run_in s found) x.at.world

-- what the disk has of a run of which these works are done
pub record IsDriven (r : KeptRun) (done : List Entry) (v : View) : Type 0 where
  pub of_run : IsFound r.setup r.key r.rules r.found
  pub left : List Entry
  pub has : HasDone r done left
  pub files : FilesAre r done v.seen
  pub stands : KeeperStands (course_by r) (newest_of r done) (next_of r done left) v

-- an image at some moment of the run
pub record IsImageOf (r : KeptRun) (image : Files) : Type 0 where
  pub done : List Entry
  pub left : List Entry
  pub has : HasDone r done left
  pub trail : IsTrailOf (course_by r) (newest_of r done) (next_of r done left) image

-- ---- turns

-- from one place to another: what the disk had of the run there, it has here
pub record Moves (s : Setting) (found : Option Checkpoint) (first : Counts) (was is : Place s)
    (x : IsDriving s found first was) : Type 0 where
  pub there : IsDriving s found first is
  pub driven : s.disk → s.wire → IsDriven (kept_in s found) (handed x) was.view
      → IsDriven (kept_in s found) (handed there) is.view

abbrev pub MovesOn : (s : Setting) (was is : Place s) → Type 0
MovesOn s was is =
    (found : Option Checkpoint) (first : Counts) (x : IsDriving s found first was)
    → Moves s found first was is x

-- what each moment leaves
abbrev pub LeavesImages : (s : Setting) (was : Place s) (new : View) → Type 0
LeavesImages s was new =
    (found : Option Checkpoint) (first : Counts) (x : IsDriving s found first was) → s.disk → s.wire
    → IsDriven (kept_in s found) (handed x) was.view
    → LeavesOnly was.view new (IsImageOf (kept_in s found))

-- what a keeper and a core have in common, on whatever disk
pub record IsKept (job : Job) (tells : Type 0) (k : Keeper) (core : Cores) (v : View) : Type 0 where
  pub keeper : k ≡ record {
    keep = job.keep;
    vars = job.out_vars;
    lengths = core.lengths;
  }
  pub key : core.buffers.state.key ≡ job.key
  pub counts : tells → AreCounted core.lengths v
  pub slots : tells → SlotsSettled v

-- the run goes on, or is over
pub record IsGoing (s : Setting) (k : Keeper) (p : Place s) : Type 0 where
  pub running : IsRunning s.wire s.job s.rules p.is
  pub kept : IsKept s.job s.disk k p.is.core p.view

-- what a step has left of a core that it found at this one
pub record IsBehind (job : Job) (tells : Type 0) (k : Keeper) (is : Cores) (event : Event)
    (v : View) : Type 0 where
  pub was : Cores
  pub leaves : Leaves (setup_of job) was is event
  pub kept : IsKept job tells k was v
  pub key : is.buffers.state.key ≡ was.buffers.state.key

-- ---- what an event is to the keeper

abbrev pub KeepsEvent : Setup → Cores → (old new : View) → Event → Type 0
KeepsEvent setup is old new (Part k) = IsQuiet old new
KeepsEvent setup is old new (Section v iteration) =
    IsAppended (place_in setup.out_vars v) (text_of_piece setup iteration v (piece_of is.buffers v))
    old new
KeepsEvent setup is old new (Save iteration) =
    OutputsSame old.seen new.seen × SaveStands is.buffers.state old new
KeepsEvent setup is old new End = IsQuiet old new

abbrev pub EventMoments : Setup → Cores → (old new : View) → Event → Type 0
EventMoments setup is old new (Part k) = IsQuiet old new
EventMoments setup is old new (Section v iteration) =
    IsQuiet old new
    ⊎ AppendMoments (place_in setup.out_vars v)
    (text_of_piece setup iteration v (piece_of is.buffers v)) old new
EventMoments setup is old new (Save iteration) = SaveMoments is.buffers.state old new
EventMoments setup is old new End = IsQuiet old new

-- ---- the end

-- a run that is over, with its outputs settled
pub record EndsAt (s : Setting) (was is : Place s) : Type 0 where
  pub over : is.is.core.outcome ≢ Going
  pub moves : MovesOn s was is
  pub stands : (found : Option Checkpoint) (first : Counts) (x : IsDriving s found first is)
      → Stands s.wire (run_in s found) (trace_in s found) first is.is x.at
  pub settled : s.disk → OutputsSettled (output_count (setup_of s.job)) is.view
  pub counts : s.disk → AreCounted is.is.core.lengths is.view

-- ---- the whole of it

-- a run from what was found: it is over, and what was driven is driven, with its outputs settled
pub record RunsFrom (s : Setting) (found : Option Checkpoint) (first : Counts) (old : View)
    (p : Place s) : Type 0 where
  pub over : p.is.core.outcome ≢ Going
  pub there : IsDriving s found first p
  pub stands : Stands s.wire (run_in s found) (trace_in s found) first p.is there.at
  pub driven : s.disk → s.wire → IsDriven (kept_in s found) [] old
      → IsDriven (kept_in s found) (handed there) p.view
  pub settled : s.disk → OutputsSettled (output_count (setup_of s.job)) p.view
  pub counts : s.disk → AreCounted p.is.core.lengths p.view

-- and what it leaves at each moment
abbrev pub RunLeaves : (s : Setting) (found : Option Checkpoint) (old new : View) → Type 0
RunLeaves s found old new =
    s.disk → s.wire → IsDriven (kept_in s found) [] old
    → LeavesOnly old new (IsImageOf (kept_in s found))
