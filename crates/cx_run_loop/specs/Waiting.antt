-- Parts that wait for each other at each checkpoint, and what a run is when one is saved.
use Rattle.std.specs.Prelude.{◌+◌, ◌%◌, ◌^◌, ◌<◌, ◌≤◌, ◌≡◌, ◌≢◌, List, [], ◌∷◌, ◌++◌, length, Option, Some, IfSome}
use Rattle.cx_plan.specs.Setups.{Setup, setup_of}
use Rattle.cx_outputs.specs.Names.{output_count}
use Rattle.cx_rule.specs.Meter.{raised}
use Rattle.cx_rule.specs.States.{State}
use Rattle.cx_model.specs.Runs.{lengths_behind}
use Rattle.cx_model.specs.Traces.{Entry, Saved as SavedState, Goes, after}
use Rattle.cx_cut.specs.Cuts.{Parts}
use Rattle.cx_cut.specs.Faults.{parts_of}
use Rattle.cx_wire.specs.Received.{counted}
use Rattle.cx_chk.specs.declared.checkpoint.Checkpoint.{Checkpoint}
use Rattle.law_network.specs.Together.{AreTogether}
use Rattle.law_parts.specs.Nets.{net, within_lead}
use Rattle.law_parts.specs.Work.{work, carried_count, total_sum}
use Rattle.law_reached.specs.Works.{works_of}
use Rattle.law_course.specs.Courses.{checkpoint_of}
use Rattle.cx_core_buffers.specs.Checkpoints.{HoldsState}
use Rattle.cx_core.specs.Cores.{Cores}
use Rattle.cx_core.specs.Gathered.{saves}
use Rattle.cx_core.specs.Starts.{AreEmpty}
use Rattle.cx_core.specs.Steps.{Counts}
use Rattle.cx_run_loop.specs.Going.{Setting, Place, IsDriving, Moves, handed, run_in, trace_in}
use Rattle.cx_run_loop.specs.Sums.{AreUnsaved, CountsBelow}
use Rattle.cx_run_loop.specs.declared.turn.Advance.{Advance}
use Rattle.cx_run_loop.specs.declared.turn.Advance.TheVariants.{Saved}

-- ---- on the way to a checkpoint

-- no part has gone past the writer's next checkpoint
abbrev pub AreTogetherAt : (s : Setting) (found : Option Checkpoint) (first : Counts) (p : Place s)
    → IsDriving s found first p → Type 0
AreTogetherAt s found first p x =
    AreTogether (net s.wire within_lead (run_in s found) x.at.oracle)
    (saves (run_in s found) x.at.oracle) x.at.world

-- nor was one saved since the core began
pub record IsWaiting (s : Setting) (found : Option Checkpoint) (first : Counts) (p : Place s)
    (x : IsDriving s found first p) : Type 0 where
  pub together : AreTogetherAt s found first p x
  pub unsaved : s.wire → AreUnsaved (handed x)

-- ---- at a checkpoint

-- a core holds the checkpoint that came last: a whole state, and the outputs' lengths as they are
pub record HoldsCheckpoint (setup : Setup) (core : Cores) : Type 0 where
  pub state : HoldsState setup core.buffers.state
  pub lengths : core.buffers.state.lengths ≡ core.lengths
  pub count : length core.lengths ≡ output_count setup

-- The run is what it has done up to this checkpoint, which is the first one, and the run that goes
-- on from there.
pub record ComesTo (s : Setting) (found : Option Checkpoint) (c : Checkpoint) (done : List Entry)
    : Type 0 where
  pub earlier : List Entry
  pub state : State
  pub unsaved : AreUnsaved earlier
  pub run : trace_in s found
      ≡ after (earlier ++ SavedState c.iteration state ∷ []) (trace_in s (Some c))
  pub done_is : done ≡ works_of earlier ++ SavedState c.iteration state ∷ []
  pub checkpoint : c ≡ checkpoint_of (setup_of s.job) s.job.key c.iteration state
      (lengths_behind (run_in s found).so_far (works_of earlier))
  pub later : IfSome found (λ f. f.iteration < c.iteration)
  pub within : c.iteration ≤ s.job.itlast

-- what was counted is what these entries count
pub record HasCounted (setup : Setup) (cut : Parts) (es : List Entry) (first now : Counts)
    : Type 0 where
  pub points : now.points ≡ raised first.points (work setup cut es)
  pub values : now.values ≡ counted first.values (carried_count setup cut es)
  pub sum : now.sum ≡ (first.sum + total_sum setup cut es) % 2 ^ 64

-- A checkpoint was just saved: no message is left. Where the wire tells, the run has come to it,
-- and what was counted is what it has done.
pub record HasGathered (s : Setting) (found : Option Checkpoint) (first : Counts) (p : Place s)
    (x : IsDriving s found first p) : Type 0 where
  pub none_left : AreEmpty p.is.queue
  pub comes : s.wire → ComesTo s found p.is.core.buffers.state (handed x)
  pub counted : (t : s.wire) (last : State) → (trace_in s found).outcome ≡ Goes last
      → HasCounted (setup_of s.job) (parts_of s.job.shape s.job.cut) (comes t).earlier first
      p.is.now

-- ---- a call that moves a run on whose parts wait

pub record Waits (s : Setting) (found : Option Checkpoint) (first : Counts) (was is : Place s)
    (x : IsDriving s found first was) (came : Advance) : Type 0 where
  pub moves : Moves s found first was is x
  pub together : AreTogetherAt s found first was x → AreTogetherAt s found first is moves.there
  pub unsaved : came ≢ Saved → s.wire → AreUnsaved (handed x) → AreUnsaved (handed moves.there)
  pub gathers : came ≡ Saved → IsWaiting s found first was x
      → HasGathered s found first is moves.there

abbrev pub WaitsOn : (s : Setting) (was is : Place s) → Advance → Type 0
WaitsOn s was is came =
    (found : Option Checkpoint) (first : Counts) (x : IsDriving s found first was)
    → Waits s found first was is x came

-- of a run that comes to its end no more was counted than it counts in all, however it is cut anew
-- at the checkpoints that are to come
abbrev pub StaysBelow : (s : Setting) → Place s → Counts → Type 0
StaysBelow s was now =
    s.wire → (found : Option Checkpoint) (first : Counts) (x : IsDriving s found first was)
    → IsWaiting s found first was x → (last : State) → (trace_in s found).outcome ≡ Goes last
    → (again : State → Parts)
    → CountsBelow (setup_of s.job) again (parts_of s.job.shape s.job.cut)
    (trace_in s found).entries first now
