-- The law of cores of which no event is done that lies ahead: their parts wait for each other at
-- each checkpoint.
use Rattle.std.specs.Prelude.{ℕ, ◌+◌, ◌≤◌, ◌≡◌, false, List, ◌∷◌, ◌++◌, slice_get}
use Rattle.cx_plan.specs.declared.job.Job.{Job}
use Rattle.cx_plan.specs.Setups.{setup_of}
use Rattle.cx_rule.specs.Routine.{Rule}
use Rattle.cx_rule.specs.States.{State}
use Rattle.cx_model.specs.Traces.{Entry, Saved, Goes}
use Rattle.cx_cut.specs.Cuts.{Parts}
use Rattle.cx_cut.specs.Faults.{parts_of}
use Rattle.law_network.specs.Together.{AreTogether}
use Rattle.law_parts.specs.Beginnings.{Beginning, IsBeginning, run_of}
use Rattle.law_parts.specs.Nets.{net, within_lead}
use Rattle.law_parts.specs.Runs.{Run}
use Rattle.law_parts.specs.Totals.{undivided_from}
use Rattle.law_reached.specs.Works.{handed_out}
use Rattle.cx_wire.specs.Messages.{Sent}
use Rattle.cx_core_events.specs.Events.{events}
use Rattle.cx_core.specs.declared.answers.Event.{Event}
use Rattle.cx_core.specs.declared.answers.Event.TheVariants as answers
use Rattle.cx_core.specs.Cores.{Cores, ahead_in}
use Rattle.cx_core.specs.Gathered.{saves}
use Rattle.cx_core.specs.Hands.{StepsTo}
use Rattle.cx_core.specs.Starts.{AreEmpty}
use Rattle.cx_core.specs.Steps.{Begins, Counts, IsAt, Standing, event_costs}
use Rattle.cx_run_loop.specs.Sums.{AreUnsaved, CountsBelow, carried_in, work_in}
use Rattle.cx_run_loop.specs.Waiting.{HasCounted}

-- no part has gone past the writer's next checkpoint
abbrev pub IsTogether : (tells : Type 0) (r : Run) (first : Counts) (is : Standing tells)
    → IsAt tells r first is.core is.queue is.now → Type 0
IsTogether tells r first is at =
    AreTogether (net tells within_lead r at.oracle) (saves r at.oracle) at.world

-- a step from where a core is in a run of a job
abbrev pub Stepped : (tells : Type 0) (job : Job) (rules : List Rule) (b : Beginning)
    (first : Counts) (k : ℕ) (was is : Standing tells)
    → IsAt tells (run_of job rules b) first was.core was.queue was.now → Event → Type 0
Stepped tells job rules b first k was is at event =
    StepsTo tells (run_of job rules b) (undivided_from (setup_of job) rules b) first k was is at
    event

-- what the parts have counted, with what one more event costs, is within what the run counts that
-- is cut anew in any way
pub record SpendsBelow (tells : Type 0) (job : Job) (rules : List Rule) (b : Beginning)
    (first : Counts) (is : Standing tells)
    (at : IsAt tells (run_of job rules b) first is.core is.queue is.now) (k : ℕ)
    (again : State → Parts) : Type 0 where
  pub points : at.world.meter 0
      + event_costs (run_of job rules b) is.core.pace (slice_get (events is.core.pace) k) 0
      ≤ work_in (setup_of job) again (parts_of job.shape job.cut)
      (undivided_from (setup_of job) rules b).entries
  pub values : at.world.meter 1
      + event_costs (run_of job rules b) is.core.pace (slice_get (events is.core.pace) k) 1
      ≤ carried_in (setup_of job) again (parts_of job.shape job.cut)
      (undivided_from (setup_of job) rules b).entries

pub record CoresWait (tells : Type 0) (job : Job) (rules : List Rule) (b : Beginning)
    : Type 0 where
  -- they are together as a run begins
  pub begins : (first : Counts) (core : Cores) (queue : ℕ → ℕ → List (Sent tells))
      (x : Begins tells (run_of job rules b) first core queue)
      → IsTogether tells (run_of job rules b) first
      (record { core = core; queue = queue; now = first }) x.at
  -- a step that doesn't lie ahead keeps them together
  pub keeps : (first : Counts) (k : ℕ) (was is : Standing tells)
      (at : IsAt tells (run_of job rules b) first was.core was.queue was.now) (event : Event)
      (s : Stepped tells job rules b first k was is at event) → ahead_in was.core k ≡ false
      → IsTogether tells (run_of job rules b) first was at
      → IsTogether tells (run_of job rules b) first is s.there
  -- at a checkpoint no message is left
  pub none_left : (first : Counts) (k c : ℕ) (was is : Standing tells)
      (at : IsAt tells (run_of job rules b) first was.core was.queue was.now)
      → Stepped tells job rules b first k was is at (answers.Save c)
      → IsTogether tells (run_of job rules b) first was at → AreEmpty is.queue
  -- at the first one, in a run that comes to its end, what was counted is what the entries before
  -- it count
  pub counted : tells → (first : Counts) (k c : ℕ) (was is : Standing tells)
      (at : IsAt tells (run_of job rules b) first was.core was.queue was.now)
      → Stepped tells job rules b first k was is at (answers.Save c)
      → IsTogether tells (run_of job rules b) first was at
      → AreUnsaved (handed_out (run_of job rules b) at.world)
      → (last : State) → (undivided_from (setup_of job) rules b).outcome ≡ Goes last
      → (earlier later : List Entry) (n : ℕ) (state : State) → AreUnsaved earlier
      → (undivided_from (setup_of job) rules b).entries ≡ earlier ++ Saved n state ∷ later
      → HasCounted (setup_of job) (parts_of job.shape job.cut) earlier first is.now
  -- before it no more is counted than those and all later entries count
  pub below : tells → (first : Counts) (k : ℕ) (is : Standing tells)
      (at : IsAt tells (run_of job rules b) first is.core is.queue is.now)
      → ahead_in is.core k ≡ false → IsTogether tells (run_of job rules b) first is at
      → AreUnsaved (handed_out (run_of job rules b) at.world)
      → (last : State) → (undivided_from (setup_of job) rules b).outcome ≡ Goes last
      → (again : State → Parts) → SpendsBelow tells job rules b first is at k again

-- a step from where a core is, whatever comes of it
abbrev pub StepsBelow : (tells : Type 0) → Job → List Rule → Standing tells → Counts → Type 0
StepsBelow tells job rules was now =
    tells → (b : Beginning) → IsBeginning (setup_of job) b → (first : Counts)
    → (at : IsAt tells (run_of job rules b) first was.core was.queue was.now)
    → IsTogether tells (run_of job rules b) first was at
    → AreUnsaved (handed_out (run_of job rules b) at.world)
    → (last : State) → (undivided_from (setup_of job) rules b).outcome ≡ Goes last
    → (again : State → Parts)
    → CountsBelow (setup_of job) again (parts_of job.shape job.cut)
    (undivided_from (setup_of job) rules b).entries first now
