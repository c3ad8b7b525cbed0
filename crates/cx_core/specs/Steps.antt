-- What a step does.
use Rattle.std.specs.Prelude.{ℕ, ◌+◌, ◌%◌, ◌^◌, ◌<◌, ◌≡◌, List, [], ◌∷◌, All, Contains, Option, Some, None, slice_get}
use Rattle.cx_plan.specs.declared.job.Job.{Job}
use Rattle.cx_plan.specs.Setups.{setup_of}
use Rattle.cx_rule.specs.Meter.{raised}
use Rattle.cx_rule.specs.Routine.{Rule}
use Rattle.cx_field.specs.Sweeps.{RoseWithin}
use Rattle.cx_model.specs.Runs.{Lengths}
use Rattle.law_network.specs.Machine.{World, Can, After, left, begun}
use Rattle.law_network.specs.Machine as network
use Rattle.cx_wire.specs.Messages.{Sent as SentMail}
use Rattle.cx_wire.specs.Received.{counted}
use Rattle.cx_flat.specs.declared.op.Op.{Op}
use Rattle.cx_flat.specs.declared.op.Op.TheVariants as ops
use Rattle.law_parts.specs.Beginnings.{Beginning, IsBeginning, run_of}
use Rattle.law_parts.specs.Holding.{Held}
use Rattle.law_parts.specs.Laws.{IsReachedState}
use Rattle.law_parts.specs.Moves.{Message, Channel}
use Rattle.law_parts.specs.Nets.{net, within_lead, taken_sum, costs}
use Rattle.law_parts.specs.Runs.{Run, Oracle, parts_in, next_op, guided}
use Rattle.law_parts.specs.Truths.{truth}
use Rattle.cx_core_part.specs.Exchanges.{ReceivedWithin}
use Rattle.cx_core_events.specs.declared.standing.Next.{Next}
use Rattle.cx_core_events.specs.declared.standing.Next.TheVariants as next
use Rattle.cx_core_events.specs.Paces.{Paces, op_of}
use Rattle.cx_core.specs.declared.answers.Event.{Event}
use Rattle.cx_core.specs.declared.answers.Event.TheVariants.{Part, Section, Save, End}
use Rattle.cx_core.specs.Cores.{Cores, items_of}
use Rattle.cx_core.specs.Shows.{Shows}

-- what a meter and a wire have counted: points, values received, and their sum
pub record Counts : Type 0 where
  pub points : ℕ
  pub values : ℕ
  pub sum : ℕ

-- a core, the queues of its wire, and what meter and wire have counted
pub record Standing (tells : Type 0) : Type 0 where
  pub core : Cores
  pub queue : ℕ → ℕ → List (SentMail tells)
  pub now : Counts

abbrev pub counts : (points values sum : ℕ) → Counts
counts points values sum = record { points = points; values = values; sum = sum }

abbrev pub stands_at : {tells : Type 0} → Cores → (ℕ → ℕ → List (SentMail tells))
    → (points values sum : ℕ) → Standing tells
stands_at core queue points values sum =
    record { core = core; queue = queue; now = counts points values sum }

-- Where a core, its wire and its meter are: in a state that a run in parts reaches, which they
-- show. They have counted what the run has, on top of what they had counted when it began. Each
-- part's items are those of its iteration.
pub record IsAt (tells : Type 0) (r : Run) (first : Counts) (core : Cores)
    (queue : ℕ → ℕ → List (SentMail tells)) (now : Counts) : Type 0 where
  pub world : World Held (Message tells) Channel Lengths
  pub oracle : Oracle
  pub reached : IsReachedState tells r oracle world
  pub shows : Shows tells r oracle core queue world
  pub points : now.points ≡ raised first.points (world.meter 0)
  pub values : now.values ≡ counted first.values (world.meter 1)
  pub sum : (t : tells) → now.sum ≡ (first.sum + taken_sum t r oracle world) % 2 ^ 64
  pub items : core.items ≡ items_of r.setup core.pace

-- where a run begins: nobody has done anything
pub record Begins (tells : Type 0) (r : Run) (first : Counts) (core : Cores)
    (queue : ℕ → ℕ → List (SentMail tells)) : Type 0 where
  pub at : IsAt tells r first core queue first
  pub nothing_done : at.world ≡ begun (net tells within_lead r (truth r))

-- in a run of the job by these rules, from some beginning
pub record IsRunning (tells : Type 0) (job : Job) (rules : List Rule)
    (is : Standing tells) : Type 0 where
  pub beginning : Beginning
  pub begins : IsBeginning (setup_of job) beginning
  pub first : Counts
  pub at : IsAt tells (run_of job rules beginning) first is.core is.queue is.now

-- ---- what is counted

-- What was counted never falls, and rises by these costs at most: 0 counts points, 1 values
-- received.
pub record RisesWithin (costs : ℕ → ℕ) (before after : Counts) : Type 0 where
  pub points : RoseWithin (costs 0) before.points after.points
  pub values : ReceivedWithin (costs 1) before.values after.values

-- what an event costs: that of a part its operation; those of the writer cost nothing
abbrev pub event_costs : Run → Paces → Option Next → ℕ → ℕ
event_costs r p (Some (next.Part k)) i = costs r i k (op_of p k)
event_costs r p (Some next.Write) i = 0
event_costs r p (Some next.End) i = 0
event_costs r p None i = 0

-- ---- which event

-- parts come first, by number, and the writer last
abbrev pub rank : ℕ → network.Event → ℕ
rank parts (network.Part k) = k
rank parts (network.Write n) = parts
rank parts network.End = parts

abbrev pub Rises : (network.Event → ℕ) → List network.Event → Type 0
Rises f [] = Unit {0}
Rises f (e ∷ es) = All (λ (d : network.Event). f e < f d) es × Rises f es

-- the events that can happen, each once, in their order
pub record AreEnabled (tells : Type 0) (r : Run) (oracle : Oracle)
    (w : World Held (Message tells) Channel Lengths) (es : List network.Event) : Type 0 where
  pub each : All (λ (e : network.Event). Can (net tells within_lead r oracle) w e) es
  pub all : (e : network.Event) → Can (net tells within_lead r oracle) w e → Contains es e
  pub order : Rises (rank (parts_in r)) es

-- the work of an operation in an iteration, as it is answered
abbrev pub work_event : Op → ℕ → Event
work_event (ops.Piece v) iteration = Section v iteration
work_event ops.Save iteration = Save iteration
work_event _ iteration = End

-- what is answered for a work; one with which its own output would pass the limit is the end
abbrev pub AnswersWork : Run → Oracle → ℕ → Option ℕ → Event → Type 0
AnswersWork r oracle n None event =
    event ≡ work_event (next_op r (guided r oracle n).control) (guided r oracle n).control.iteration
AnswersWork r oracle n (Some m) event = event ≡ End

-- what is answered for an event
abbrev pub Answers : {tells : Type 0} → Run → Oracle → network.Event
    → World Held (Message tells) Channel Lengths → Event → Type 0
Answers r oracle (network.Part k) new event = event ≡ Part k
Answers r oracle (network.Write n) new event = AnswersWork r oracle n new.over event
Answers r oracle network.End new event = event ≡ End

-- the k-th of the events that can happen is done, and no other
pub record DoesEvent (tells : Type 0) (r : Run) (k : ℕ) (oracle : Oracle)
    (old new : World Held (Message tells) Channel Lengths) (event : Event) : Type 0 where
  pub events : List network.Event
  pub enabled : AreEnabled tells r oracle old events
  pub which : network.Event
  pub kth : slice_get events k ≡ Some which
  pub after : After (net tells within_lead r oracle) old which new
  pub answers : Answers r oracle which new event
