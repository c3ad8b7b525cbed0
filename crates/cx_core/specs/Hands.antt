-- What a step hands out where the wire tells what it carries: the works of the undivided run, in
-- its order, and its end.
use Rattle.std.specs.Prelude.{ℕ, ◌+◌, ◌%◌, ◌^◌, ◌<◌, ◌≤◌, ◌≡◌, ◌↔◌, ◌⊎◌, true, false, ℤ, pos, List, [], ◌∷◌, ◌++◌, length, slice_get, Option, Some, None, if◌then◌else◌}
use Rattle.cx_plan.specs.declared.variable.VarId.{VarId}
use Rattle.cx_plan.specs.Setups.{Setup}
use Rattle.cx_plan.specs.Lookups.{is_scalar, levels_of}
use Rattle.cx_rule.specs.States.{State, level_of, scalar_of}
use Rattle.cx_rule.specs.Meter.{raised}
use Rattle.cx_model.specs.Runs.{Lengths, lengths_behind, greatest_output}
use Rattle.cx_model.specs.Traces.{Entry, Wrote, Saved, Trace, Goes, Ends, Outcome as TraceOutcome}
use Rattle.cx_outputs.specs.Names.{output_count, output_names, lengths_in, place_in}
use Rattle.law_network.specs.Machine.{World, left}
use Rattle.law_network.specs.Machine as network
use Rattle.cx_field.specs.Patches.{PatchValue, IsScalar}
use Rattle.cx_wire.specs.Received.{counted}
use Rattle.cx_chk.specs.declared.checkpoint.Checkpoint.{Checkpoint}
use Rattle.cx_core_buffers.specs.Checkpoints.{state_of}
use Rattle.cx_core_buffers.specs.Gathering.{HasPiece, HasRoom, piece_of}
use Rattle.cx_core_events.specs.Shows.{IsBehindSave, SameWay}
use Rattle.law_parts.specs.Holding.{Held}
use Rattle.law_parts.specs.Moves.{Message, Channel}
use Rattle.law_parts.specs.Nets.{net, within_lead}
use Rattle.law_parts.specs.Runs.{Run, Oracle, cut_of, undivided, guided}
use Rattle.law_parts.specs.Work.{work, carried_count, total_sum}
use Rattle.law_reached.specs.Works.{works_of, handed_out}
use Rattle.cx_core.specs.declared.answers.Event.{Event}
use Rattle.cx_core.specs.declared.answers.Event.TheVariants.{Part, Section, Save, End}
use Rattle.cx_core.specs.declared.answers.Outcome.{Outcome}
use Rattle.cx_core.specs.declared.answers.Outcome.TheVariants.{Going, Done}
use Rattle.cx_core.specs.Cores.{Cores, outcome_of, enabled_in, ahead_in}
use Rattle.cx_core.specs.Writes.{length_behind, text_written, state_written, limit_met, run_ended}
use Rattle.cx_core.specs.Steps.{Counts, Standing, IsAt, AreEnabled, DoesEvent}
use Rattle.cx_core.specs.Left.{steps_left}
use Rattle.cx_core.specs.Texts.{text_of_piece}

-- a variable's whole current level, or a scalar's number
abbrev pub whole_piece : Setup → VarId → State → List ℤ
whole_piece setup v state = if is_scalar setup v then scalar_of state v ∷ [] else level_of state v 0

-- a checkpoint of an iteration, with the whole state and the outputs' names and lengths
pub record IsCheckpointOf (setup : Setup) (c : Checkpoint) (iteration : ℕ) (state : State)
    (so_far : Lengths) : Type 0 where
  pub version_is : c.version ≡ 2
  pub names_is : c.names ≡ output_names setup
  pub iteration_is : c.iteration ≡ iteration
  pub state_is : state_of setup.vars c ≡ state
  pub lengths_is : c.lengths ≡ lengths_in setup.out_vars so_far

-- the outcome by which a run ends
abbrev pub ended_as : TraceOutcome → Outcome
ended_as (Goes state) = outcome_of None
ended_as (Ends end) = outcome_of (Some end)

-- an answer, by the works that were handed out before it and with it
abbrev pub HandsOut : Run → Trace → Cores → (before now : List Entry) → Event → Type 0
HandsOut r trace core before now (Part k) = now ≡ before
HandsOut r trace core before now (Section v iteration) =
    (text : List ℕ) × (state : State) × (now ≡ before ++ Wrote v iteration text state ∷ [])
    × (piece_of core.buffers v ≡ whole_piece r.setup v state)
    × (text ≡ text_of_piece r.setup iteration v (piece_of core.buffers v))
HandsOut r trace core before now (Save iteration) =
    (state : State) × (now ≡ before ++ Saved iteration state ∷ [])
    × IsCheckpointOf r.setup core.buffers.state iteration state (lengths_behind r.so_far before)
HandsOut r trace core before now End =
    (now ≡ before) × (works_of trace.entries ≡ now) × (core.outcome ≡ ended_as trace.outcome)

-- Where the run is done: what was counted has risen by what the run's entries say.
pub record HasTotals (r : Run) (trace : Trace) (first now : Counts) : Type 0 where
  pub points : now.points ≡ raised first.points (work r.setup (cut_of r) trace.entries)
  pub values : now.values ≡ counted first.values (carried_count r.setup (cut_of r) trace.entries)
  pub sum : now.sum ≡ (first.sum + total_sum r.setup (cut_of r) trace.entries) % 2 ^ 64

-- ---- steps

-- What an answer leaves of the core, whatever its wire tells. A part's operation leaves the outputs
-- as long as they are. A text of a variable that is written or a checkpoint is there to be lent;
-- the run is over by the end that was met, or by a text with which its own output would pass the
-- limit.
abbrev pub Leaves : Setup → (was is : Cores) → Event → Type 0
Leaves setup was is (Part k) = (is.lengths ≡ was.lengths) × (is.outcome ≡ was.outcome)
Leaves setup was is (Section v iteration) =
    (is ≡ text_written setup v iteration was)
    × (length_behind setup v iteration was ≤ greatest_output) × HasPiece setup is.buffers v
    × (place_in setup.out_vars v < output_count setup)
Leaves setup was is (Save iteration) =
    (is ≡ state_written iteration was) × HasRoom setup is.buffers
Leaves setup was is End =
    (is ≡ run_ended was)
    ⊎ ((v : VarId) × (iteration : ℕ) × (is ≡ limit_met iteration was)
    × (greatest_output < length_behind setup v iteration was))

-- A step from where a core is: it does the k-th event that can happen, and leads where the core is
-- then, with less left to do, also by where the parts stand alone. The key of the checkpoints
-- stays, and so does the way of all parts wherever one has been. Where the wire tells what it
-- carries, it hands out what the run does next.
pub record StepsTo (tells : Type 0) (r : Run) (trace : Trace) (first : Counts) (k : ℕ)
    (was is : Standing tells) (at : IsAt tells r first was.core was.queue was.now)
    (event : Event) : Type 0 where
  pub there : IsAt tells r first is.core is.queue is.now
  pub does : DoesEvent tells r k at.oracle at.world there.world event
  pub falls : left (net tells within_lead r there.oracle) there.world
      < left (net tells within_lead r at.oracle) at.world
  pub less : steps_left r.setup is.core.pace < steps_left r.setup was.core.pace
  pub leaves : Leaves r.setup was.core is.core event
  pub key : is.core.buffers.state.key ≡ was.core.buffers.state.key
  pub hands : tells → HandsOut r trace is.core (handed_out r at.world) (handed_out r there.world)
      event
  pub same_way : SameWay r at.oracle there.oracle there.world

-- ---- what is lent

-- the number of a scalar of the first part
abbrev pub number_in : Option PatchValue → VarId → ℤ
number_in None v = pos 0
number_in (Some p) v = scalar_of p.numbers v

abbrev pub last_number : Cores → VarId → ℤ
last_number core v = number_in (slice_get core.patches 0) v

abbrev pub HasScalarIn : Option PatchValue → VarId → Type 0
HasScalarIn None v = ⊥
HasScalarIn (Some p) v = IsScalar p v

abbrev pub HasScalar : Cores → VarId → Type 0
HasScalar core v = HasScalarIn (slice_get core.patches 0) v

-- ---- the end

-- the run is done: all was counted, and no message is left
pub record IsDone (tells : Type 0) (r : Run) (trace : Trace) (first : Counts)
    (is : Standing tells) : Type 0 where
  pub totals : HasTotals r trace first is.now
  pub none_left : (a b : ℕ) → is.queue a b ≡ []
  -- what is lent is the scalars of the last state
  pub last : (state : State) (v : VarId) → trace.outcome ≡ Goes state → is_scalar r.setup v ≡ true
      → last_number is.core v ≡ scalar_of state v

-- of a core whose wire tells
pub record Tells (tells : Type 0) (r : Run) (trace : Trace) (first : Counts)
    (is : Standing tells) : Type 0 where
  pub ended : (is.core.outcome ≡ Going → ⊥) → is.core.outcome ≡ ended_as trace.outcome
  pub done : is.core.outcome ≡ Done → IsDone tells r trace first is

-- an event is the operation of a part that stands behind the writer's next checkpoint
abbrev pub LiesAhead : {tells : Type 0} → Run → Oracle → World Held (Message tells) Channel Lengths
    → Option network.Event → Type 0
LiesAhead r oracle w (Some (network.Part k)) = IsBehindSave r oracle w k
LiesAhead r oracle w (Some (network.Write n)) = ⊥
LiesAhead r oracle w (Some network.End) = ⊥
LiesAhead r oracle w None = ⊥

-- wherever a core is
pub record Stands (tells : Type 0) (r : Run) (trace : Trace) (first : Counts) (is : Standing tells)
    (at : IsAt tells r first is.core is.queue is.now) : Type 0 where
  pub events : List network.Event
  pub enabled : AreEnabled tells r at.oracle at.world events
  pub count : enabled_in is.core ≡ length events
  pub some_event : is.core.outcome ≡ Going → 0 < enabled_in is.core
  -- which of them lie behind the writer's next checkpoint; never do all. Where the wire tells, the
  -- way to it is the undivided run.
  pub ahead : (k : ℕ) → k < enabled_in is.core
      → ahead_in is.core k ≡ true ↔ LiesAhead r at.oracle at.world (slice_get events k)
  pub some_before : is.core.outcome ≡ Going
      → (k : ℕ) × (k < enabled_in is.core) × (ahead_in is.core k ≡ false)
  pub way : tells → (n : ℕ) → guided r at.oracle n ≡ undivided r n
  -- each stored scalar can be lent
  pub scalars : (v : VarId) → v.0 < length r.setup.vars → 0 < levels_of r.setup v
      → is_scalar r.setup v ≡ true → HasScalar is.core v
  pub told : tells → Tells tells r trace first is
