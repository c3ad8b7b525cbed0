-- What a run has counted, whenever it stops.
use Rattle.std.specs.Prelude.{ℕ, ◌+◌, ◌≤◌, ◌≡◌, List, Option, slice_get}
use Rattle.cx_plan.specs.declared.job.Job.{Job}
use Rattle.cx_plan.specs.Setups.{Setup, setup_of}
use Rattle.cx_rule.specs.Meter.{raised}
use Rattle.cx_rule.specs.Routine.{Rule}
use Rattle.cx_rule.specs.States.{State}
use Rattle.cx_model.specs.Runs.{Lengths}
use Rattle.cx_model.specs.Traces.{Entry, Goes}
use Rattle.cx_cut.specs.Cuts.{Parts}
use Rattle.cx_cut.specs.Faults.{parts_of}
use Rattle.cx_wire.specs.Received.{counted}
use Rattle.cx_chk.specs.declared.checkpoint.Checkpoint.{Checkpoint}
use Rattle.law_network.specs.Machine.{World}
use Rattle.law_parts.specs.Beginnings.{Beginning, IsBeginning, run_of}
use Rattle.law_parts.specs.Holding.{Held}
use Rattle.law_parts.specs.Laws.{IsReachedState}
use Rattle.law_parts.specs.Moves.{Message, Channel}
use Rattle.law_parts.specs.Runs.{Run, Oracle}
use Rattle.law_parts.specs.Totals.{undivided_from}
use Rattle.law_parts.specs.Work.{work, carried_count}
use Rattle.cx_core_events.specs.Events.{events}
use Rattle.cx_core_events.specs.Paces.{Paces}
use Rattle.cx_core_events.specs.Shows.{ShowsPace}
use Rattle.cx_core.specs.Steps.{Counts, Standing, IsAt, event_costs}
use Rattle.cx_run_loop.specs.Going.{Setting, Place, IsDriving, trace_in}

-- no more points and values were counted than these entries compute and exchange
pub record CountsWithin (setup : Setup) (cut : Parts) (es : List Entry)
    (first now : Counts) : Type 0 where
  pub points : now.points ≤ raised first.points (work setup cut es)
  pub values : now.values ≤ counted first.values (carried_count setup cut es)

-- of a run that comes to its end without any fault
abbrev pub IsWithin : Job → List Rule → Beginning → (first now : Counts) → Type 0
IsWithin job rules b first now =
    (state : State) → (undivided_from (setup_of job) rules b).outcome ≡ Goes state
    → CountsWithin (setup_of job) (parts_of job.shape job.cut)
    (undivided_from (setup_of job) rules b).entries first now

-- a step from there, whatever comes of it
abbrev pub StepsWithin : (tells : Type 0) → Job → List Rule → Standing tells → Counts → Type 0
StepsWithin tells job rules was now =
    tells → (b : Beginning) → IsBeginning (setup_of job) b → (first : Counts)
    → IsAt tells (run_of job rules b) first was.core was.queue was.now
    → IsWithin job rules b first now

-- a call that moves a run on
abbrev pub StaysWithin : (s : Setting) → Place s → Counts → Type 0
StaysWithin s was now =
    s.wire → (found : Option Checkpoint) (first : Counts) → IsDriving s found first was
    → (state : State) → (trace_in s found).outcome ≡ Goes state
    → CountsWithin (setup_of s.job) (parts_of s.job.shape s.job.cut) (trace_in s found).entries
    first now

-- ---- the law

-- what the parts have counted, with what one more event costs
pub record SpendsWithin (setup : Setup) (cut : Parts) (es : List Entry) (r : Run)
    (meter : ℕ → ℕ) (p : Paces) (k : ℕ) : Type 0 where
  pub points : meter 0 + event_costs r p (slice_get (events p) k) 0 ≤ work setup cut es
  pub values : meter 1 + event_costs r p (slice_get (events p) k) 1 ≤ carried_count setup cut es

-- in each state that a run in parts reaches which comes to its last place, where its wires tell
abbrev pub CountsStay : (tells : Type 0) → Job → List Rule → Beginning → Type 0
CountsStay tells job rules b =
    tells → (oracle : Oracle) (w : World Held (Message tells) Channel Lengths) (p : Paces)
    → IsReachedState tells (run_of job rules b) oracle w
    → ShowsPace tells (run_of job rules b) oracle w p
    → (state : State) → (undivided_from (setup_of job) rules b).outcome ≡ Goes state → (k : ℕ)
    → SpendsWithin (setup_of job) (parts_of job.shape job.cut)
    (undivided_from (setup_of job) rules b).entries (run_of job rules b) w.meter p k
