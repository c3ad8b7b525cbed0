-- A run of a job by one core after another.
use Rattle.std.specs.Prelude.{ℕ, ◌+◌, ◌≤◌, ◌≡◌, ◌≢◌, ◌⊎◌, nat_le, Bool, true, false, ◌&&◌, IsTrue, List, Option, Some, None}
use Rattle.cx_plan.specs.declared.job.Job.{Job}
use Rattle.cx_plan.specs.Setups.{setup_of}
use Rattle.cx_outputs.specs.Names.{output_count}
use Rattle.cx_rule.specs.Routine.{Rule}
use Rattle.cx_rule.specs.States.{State}
use Rattle.cx_rule.specs.declared.spec.Spec.{Spec}
use Rattle.cx_model.specs.Traces.{Goes}
use Rattle.cx_cut.specs.Cuts.{Parts}
use Rattle.cx_cut.specs.Faults.{parts_of}
use Rattle.cx_disk.specs.Disk.{View}
use Rattle.cx_disk.specs.Files.{count_with}
use Rattle.cx_disk.specs.declared.disk.Disk.{Ghosts as DiskGhosts}
use Rattle.cx_wire.specs.declared.wire.Wire.{Ghosts as WireGhosts}
use Rattle.cx_turns.specs.declared.turns.Turns.{Ghosts as TurnsGhosts}
use Rattle.cx_chk.specs.declared.checkpoint.Checkpoint.{Checkpoint}
use Rattle.law_parts.specs.Beginnings.{run_of}
use Rattle.cx_core.specs.declared.answers.Outcome.TheVariants.{Going}
use Rattle.cx_core.specs.Cores.{Cores}
use Rattle.cx_core.specs.Starts.{begins_in}
use Rattle.cx_core.specs.Steps.{Begins, Counts, counts}
use Rattle.cx_run_loop.specs.Advances.{CanAdvance, RunState, place_of, turning_of}
use Rattle.cx_run_loop.specs.Going.{Setting, Place, IsDriving, Moves, MovesOn, RunLeaves, handed, place_at, setting, trace_in}
use Rattle.cx_run_loop.specs.Lent.{Wired, wired}
use Rattle.cx_run_loop.specs.Recuts.{cut_from, first_cut, with_cut}
use Rattle.cx_run_loop.specs.Segments.{RunsBy, Start}
use Rattle.cx_run_loop.specs.Sums.{AreUnsaved, CountsBelow}
use Rattle.cx_run_loop.specs.Turning.{CoresLead, CoresStop, TurnsLead, turning}
use Rattle.cx_run_loop.specs.UnderWay.{BeginsAnew, Runs}
use Rattle.cx_run_loop.specs.Waiting.{HasGathered, HoldsCheckpoint, IsWaiting}
use Rattle.cx_run_loop.specs.declared.turn.Advance.{Advance}
use Rattle.cx_run_loop.specs.declared.turn.Advance.TheVariants.{More, Saved, Over}

-- ---- where another core goes on

-- the least iteration of a checkpoint that can come after this one, or after none
abbrev pub next_after : Option Checkpoint → ℕ
next_after None = 0
next_after (Some c) = c.iteration + 1

abbrev pub is_saved : Advance → Bool
is_saved More = false
is_saved Saved = true
is_saved Over = false

-- a checkpoint of a balanced job was just saved, from this iteration on and within the run
abbrev pub is_cut_anew : Job → (next : ℕ) → Advance → Cores → Bool
is_cut_anew job next came core =
    job.balance && is_saved came && nat_le next core.buffers.state.iteration
    && nat_le core.buffers.state.iteration job.itlast

-- A run's first core: the one that it began with, where that is in the first cut, or another one in
-- the cut after what was found.
abbrev pub BeginsCores : Job → List Spec → (own : Job) → Option Checkpoint → (was is : Runs) → Type
    0
BeginsCores job specs own found was is =
    ((is ≡ was) × (job.cut ≡ own.cut))
    ⊎ ((c : Checkpoint) × (found ≡ Some c) × BeginsAnew job specs own c was.keeper is)

-- ---- one core

-- a run can be cut anew: it holds a checkpoint from this iteration on, and within the run
pub record CanCutAnew (job : Job) (next : ℕ) (core : Cores) : Type 0 where
  pub going : core.outcome ≡ Going
  pub balance : job.balance ≡ true
  pub holds : HoldsCheckpoint (setup_of job) core
  pub least : next ≤ core.buffers.state.iteration
  pub most : core.buffers.state.iteration ≤ job.itlast

abbrev pub StopsAt : Job → (next : ℕ) → Cores → (anew : Bool) → Type 0
StopsAt job next core true = CanCutAnew job next core
StopsAt job next core false = core.outcome ≢ Going

-- What was driven is driven. A core whose parts wait has gathered where the run is to be cut anew,
-- and else it has saved no checkpoint, if those that are later than what was found come from this
-- iteration on.
pub record WaitsFor (s : Setting) (found : Option Checkpoint) (first : Counts) (was is : Place s)
    (x : IsDriving s found first was) (next : ℕ) (anew : Bool) : Type 0 where
  pub moves : Moves s found first was is x
  pub gathers : anew ≡ true → next ≡ next_after found → IsWaiting s found first was x
      → HasGathered s found first is moves.there
  pub unsaved : anew ≡ false → next ≡ next_after found → IsWaiting s found first was x → s.wire
      → AreUnsaved (handed moves.there)

-- a core's run, up to where another one goes on, or to the end
pub record RunsCore {D W T : Type 0} (d : DiskGhosts D) (w : WireGhosts W) (t : TurnsGhosts T)
    (job : Job) (rules : List Rule) (next : ℕ) (was is : RunState D W) (turns turns_after : T)
    (anew : Bool) : Type 0 where
  pub able : CanAdvance d w job rules is
  pub stops : StopsAt job next is.run.core anew
  pub lead : TurnsLead t (IsTrue w.tells) job rules (turning_of w was turns)
      (turning_of w is turns_after)
  pub moves : MovesOn (setting d w job rules) (place_of d w job rules was)
      (place_of d w job rules is)
  pub waits : job.balance ≡ true → (found : Option Checkpoint) (first : Counts)
      (x : IsDriving (setting d w job rules) found first (place_of d w job rules was))
      → WaitsFor (setting d w job rules) found first (place_of d w job rules was)
      (place_of d w job rules is) x next anew

-- no more was counted than the run counts in all, if each checkpoint comes from this iteration on
abbrev pub StaysBelowFrom : (next : ℕ) → (s : Setting) → Place s → Counts → Type 0
StaysBelowFrom next s was now =
    s.wire → (found : Option Checkpoint) (first : Counts) (x : IsDriving s found first was)
    → next ≡ next_after found → IsWaiting s found first was x → (last : State)
    → (trace_in s found).outcome ≡ Goes last → (again : State → Parts)
    → CountsBelow (setup_of s.job) again (parts_of s.job.shape s.job.cut)
    (trace_in s found).entries first now

-- ---- all of them

-- a run of a job by routines that begins from what was found
pub record From : Type 0 where
  pub job : Job
  pub rules : List Rule
  pub specs : List Spec
  pub found : Option Checkpoint

abbrev pub run_by : Job → List Rule → List Spec → Option Checkpoint → From
run_by job rules specs found = record { job = job; rules = rules; specs = specs; found = found }

-- where it begins, on a disk that is seen so, and where wire and meter have counted so much
abbrev pub start_of : From → Counts → View → Start
start_of f now v =
    record { cut = first_cut f.specs f.job f.found; found = f.found; counts = now; view = v }

abbrev pub setting_of : {D W : Type 0} → DiskGhosts D → WireGhosts W → From → Setting
setting_of d w f = setting d w f.job f.rules

-- a core in which nobody has done anything, in the first cut
abbrev pub BeginsCut : (tells : Type 0) → From → Cores → Wired tells → (meter : ℕ) → Type 0
BeginsCut tells f core wire meter =
    Begins tells (run_of (with_cut f.job (first_cut f.specs f.job f.found)) f.rules
    (begins_in (setup_of f.job) f.found)) (counts meter wire.received wire.sum) core wire.queue

-- From where it began, whatever the answer: each moment has left images of the run, disk and wire
-- are as ever but for what the run does, and no more was counted than it counts in all.
pub record RunsOn {D W : Type 0} (d : DiskGhosts D) (w : WireGhosts W) (f : From)
    (disk disk_after : D) (wire wire_after : W) (meter meter_after : ℕ) : Type 0 where
  pub moments : RunLeaves (setting_of d w f) f.found (d.view disk) (d.view disk_after)
  pub mounted : IsTrue (d.mounted disk_after)
  pub files : d.file_count disk_after ≡ count_with (output_count (setup_of f.job))
  pub folders : d.folders disk_after ≡ d.folders disk
  pub points : meter ≤ meter_after
  pub values : w.received wire ≤ w.received wire_after
  pub below : IsTrue w.tells → (last : State)
      → (trace_in (setting_of d w f) f.found).outcome ≡ Goes last
      → CountsBelow (setup_of f.job) (cut_from f.specs f.job)
      (parts_of f.job.shape (first_cut f.specs f.job f.found))
      (trace_in (setting_of d w f) f.found).entries
      (counts meter (w.received wire) (w.sum wire))
      (counts meter_after (w.received wire_after) (w.sum wire_after))

-- the core that it answers is at the run's end
abbrev pub RunsOut : {D W : Type 0} → (d : DiskGhosts D) → (w : WireGhosts W) → From → D → D → W → W
    → ℕ → ℕ → Cores → Type 0
RunsOut d w f disk disk_after wire wire_after meter meter_after core =
    RunsBy (setting_of d w f) (cut_from f.specs f.job)
    (start_of f (counts meter (w.received wire) (w.sum wire)) (d.view disk))
    (place_at d w core disk_after wire_after meter_after)

-- turn after turn led there
pub record LeadsOut {W T : Type 0} (w : WireGhosts W) (t : TurnsGhosts T) (f : From)
    (wire wire_after : W) (meter meter_after : ℕ) (turns turns_after : T) (core : Cores)
    : Type 0 where
  pub first : Cores
  pub begins : BeginsCut (IsTrue w.tells) f first (wired w wire) meter
  pub checkpoints : List Checkpoint
  pub lead : CoresLead t (IsTrue w.tells) f.specs f.job f.rules (first_cut f.specs f.job f.found)
      checkpoints (turning first (wired w wire) meter turns)
      (turning core (wired w wire_after) meter_after turns_after)

-- or a fault stopped them, before the first one or after it
abbrev pub LeadsStop : {W T : Type 0} → (w : WireGhosts W) → (t : TurnsGhosts T) → From → W → ℕ
    → (turns turns_after : T) → Type 0
LeadsStop w t f wire meter turns turns_after =
    (turns_after ≡ turns)
    ⊎ ((first : Cores) × BeginsCut (IsTrue w.tells) f first (wired w wire) meter
    × CoresStop t (IsTrue w.tells) f.specs f.job f.rules (first_cut f.specs f.job f.found)
    (turning first (wired w wire) meter turns) turns_after)
