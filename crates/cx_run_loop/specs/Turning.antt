-- Which event is done: the one that the source of turns picks.
use Rattle.std.specs.Prelude.{ℕ, ◌≡◌, ◌⊎◌, Bool, true, false, not, List, [], ◌∷◌, length, filter, Option, Some, Ok, slice_get}
use Rattle.std.specs.List.{range_with_len}
use Rattle.cx_plan.specs.declared.job.Cuts.{Cuts}
use Rattle.cx_plan.specs.declared.job.Job.{Job}
use Rattle.cx_plan.specs.Setups.{setup_of}
use Rattle.cx_rule.specs.Routine.{Rule}
use Rattle.cx_rule.specs.declared.spec.Spec.{Spec}
use Rattle.cx_turns.specs.declared.turns.Turns.{Ghosts as TurnsGhosts}
use Rattle.cx_chk.specs.declared.checkpoint.Checkpoint.{Checkpoint}
use Rattle.cx_keep.specs.Tests.{begun}
use Rattle.law_parts.specs.Beginnings.{Beginning, IsBeginning, run_of}
use Rattle.law_parts.specs.Runs.{Run}
use Rattle.law_parts.specs.Totals.{undivided_from}
use Rattle.cx_core_part.specs.Jobs.{IsRunOf}
use Rattle.cx_core_events.specs.Events.{events}
use Rattle.cx_core.specs.declared.answers.Event.{Event}
use Rattle.cx_core.specs.Cores.{Cores, ahead_in, enabled_in}
use Rattle.cx_core.specs.Hands.{StepsTo}
use Rattle.cx_core.specs.Starts.{begins_in}
use Rattle.cx_core.specs.Steps.{Begins, Counts, IsAt, RisesWithin, Standing, event_costs, stands_at}
use Rattle.cx_run_loop.specs.Drives.{Drive, counts_old}
use Rattle.cx_run_loop.specs.Lent.{Wired}
use Rattle.cx_run_loop.specs.Recuts.{first_cut, next_cut, with_cut}

-- where a run is, and its source of turns
pub record Turning (tells T : Type 0) : Type 0 where
  pub is : Standing tells
  pub turns : T

-- by its core, its wire, what the meter has counted, and the source
abbrev pub turning : {tells T : Type 0} → Cores → Wired tells → ℕ → T → Turning tells T
turning core wire meter turns = record {
  is = stands_at core wire.queue meter wire.received wire.sum;
  turns = turns;
}

-- ---- one turn

-- the numbers of the events that can happen and don't lie ahead
abbrev pub waiting : Cores → List ℕ
waiting core = filter (λ k. not (ahead_in core k)) (range_with_len 0 (enabled_in core))

-- The source picks the k-th event: of all that can happen, or, where parts wait for each other at
-- checkpoints, of those that don't lie ahead.
abbrev pub Picks : {T : Type 0} → TurnsGhosts T → (waits : Bool) → Cores → (turns : T) → (k : ℕ)
    → (turns_after : T) → Type 0
Picks t false core turns k turns_after = t.picks turns (enabled_in core) k turns_after
Picks t true core turns k turns_after =
    (i : ℕ) × t.picks turns (length (waiting core)) i turns_after
    × (slice_get (waiting core) i ≡ Some k)

-- One turn: the source picks the k-th event, and that one is done, whatever the run began from.
-- What
-- was counted rises by at most what that event costs. Parts of a balanced job wait.
pub record IsTurn {T : Type 0} (t : TurnsGhosts T) (tells : Type 0) (job : Job) (rules : List Rule)
    (was is : Turning tells T) (event : Event) : Type 0 where
  pub k : ℕ
  pub picked : Picks t job.balance was.is.core was.turns k is.turns
  pub does : (b : Beginning) → IsBeginning (setup_of job) b → (first : Counts)
      (at : IsAt tells (run_of job rules b) first was.is.core was.is.queue was.is.now)
      → StepsTo tells (run_of job rules b) (undivided_from (setup_of job) rules b) first k was.is
      is.is at event
  pub rises : (r : Run) → IsRunOf job r
      → RisesWithin (event_costs r was.is.core.pace (slice_get (events was.is.core.pace) k))
      was.is.now is.is.now

-- turn after turn, these events
abbrev pub StepsBy :
    {T : Type 0} → (t : TurnsGhosts T) → (tells : Type 0) → Job → List Rule → List Event
    → (was is : Turning tells T) → Type 0
StepsBy t tells job rules [] was is = is ≡ was
StepsBy {T} t tells job rules (event ∷ events) was is =
    (mid : Turning tells T) × IsTurn t tells job rules was mid event
    × StepsBy t tells job rules events mid is

-- some events
abbrev pub TurnsLead :
    {T : Type 0} → (t : TurnsGhosts T) → (tells : Type 0) → Job → List Rule
    → (was is : Turning tells T) → Type 0
TurnsLead t tells job rules was is = (events : List Event) × StepsBy t tells job rules events was is

-- Where a fault stops them: they have led to some place, for which the source has picked at most
-- once more.
pub record TurnsStop {T : Type 0} (t : TurnsGhosts T) (tells : Type 0) (job : Job)
    (rules : List Rule) (was : Turning tells T) (turns_after : T) : Type 0 where
  pub last : Turning tells T
  pub lead : TurnsLead t tells job rules was last
  pub stop : (turns_after ≡ last.turns)
      ⊎ ((k : ℕ) × Picks t job.balance last.is.core last.turns k turns_after)

-- ---- one core after another

-- another core begins in the checkpoint that came last, over the same wire, meter and source
pub record IsCutAnew {T : Type 0} (tells : Type 0) (job : Job) (rules : List Rule)
    (was is : Turning tells T) : Type 0 where
  pub begins : Begins tells
      (run_of job rules (begins_in (setup_of job) (Some was.is.core.buffers.state)))
      was.is.now is.is.core was.is.queue
  pub queue : is.is.queue ≡ was.is.queue
  pub now : is.is.now ≡ was.is.now
  pub turns : is.turns ≡ was.turns

-- Turns lead from one place to another, the first core by this cut. At each of these checkpoints
-- another core goes on, by the cut after it.
abbrev pub CoresLead :
    {T : Type 0} → (t : TurnsGhosts T) → (tells : Type 0) → List Spec → Job → List Rule
    → Cuts → List Checkpoint → (was is : Turning tells T) → Type 0
CoresLead t tells specs job rules cut [] was is =
    TurnsLead t tells (with_cut job cut) rules was is
CoresLead {T} t tells specs job rules cut (c ∷ cs) was is =
    (mid : Turning tells T) × (next : Turning tells T)
    × TurnsLead t tells (with_cut job cut) rules was mid
    × (mid.is.core.buffers.state ≡ c)
    × IsCutAnew tells (with_cut job (next_cut specs job c)) rules mid next
    × CoresLead t tells specs job rules (next_cut specs job c) cs next is

-- where a fault stops them
pub record CoresStop {T : Type 0} (t : TurnsGhosts T) (tells : Type 0) (specs : List Spec)
    (job : Job) (rules : List Rule) (cut : Cuts) (was : Turning tells T) (turns_after : T)
    : Type 0 where
  pub checkpoints : List Checkpoint
  pub last : Turning tells T
  pub lead : CoresLead t tells specs job rules cut checkpoints was last
  pub stop : (turns_after ≡ last.turns)
      ⊎ ((k : ℕ) × Picks t job.balance last.is.core last.turns k turns_after)

-- ---- a run, and its source of turns before and after it

-- a core in which nobody has done anything, as the run begins from what was found
pub record IsFirst (d : Drive) (found : Option Checkpoint) (first : Cores) : Type 0 where
  pub began : d.disk.tells → begun d.job d.disk.old.seen ≡ Ok found
  pub begins : Begins d.wire.tells
      (run_of (with_cut d.job (first_cut d.specs d.job found)) d.rules
      (begins_in (setup_of d.job) found))
      (counts_old d) first d.wire.old.queue

-- a run that came to its end: turn after turn led from its first core to the one that it answers
pub record TakesTurns {T : Type 0} (t : TurnsGhosts T) (d : Drive) (turns turns_after : T)
    (core : Cores) : Type 0 where
  pub found : Option Checkpoint
  pub first : Cores
  pub is_first : IsFirst d found first
  pub checkpoints : List Checkpoint
  pub lead : CoresLead t d.wire.tells d.specs d.job d.rules (first_cut d.specs d.job found)
      checkpoints (turning first d.wire.old d.meter.old turns)
      (turning core d.wire.new d.meter.new turns_after)

-- one that a fault stopped, before it had begun or after it
abbrev pub StopsTurns :
    {T : Type 0} → (t : TurnsGhosts T) → Drive → (turns turns_after : T) → Type 0
StopsTurns t d turns turns_after =
    (turns_after ≡ turns)
    ⊎ ((found : Option Checkpoint) × (first : Cores) × IsFirst d found first
    × CoresStop t d.wire.tells d.specs d.job d.rules (first_cut d.specs d.job found)
    (turning first d.wire.old d.meter.old turns) turns_after)
