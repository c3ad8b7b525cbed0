-- What the operation of a part does to its patch, the boards, the writer's buffers, the wire and
-- the meter, and where it leads.
use Rattle.std.specs.Prelude.{ℕ, zero, suc, ◌+◌, ◌<◌, ◌≤◌, ◌≡◌, ◌%◌, ◌^◌, ◌⊎◌, Bool, IsTrue, ℤ, List, [], ◌∷◌, ◌++◌, length, Option, Some, None, ⊤}
use Rattle.cx_grid.specs.Boxes.{point_count}
use Rattle.cx_plan.specs.declared.job.Job.{Job}
use Rattle.cx_plan.specs.declared.variable.VarId.{VarId}
use Rattle.cx_plan.specs.Lookups.{item}
use Rattle.cx_plan.specs.Setups.{Setup, setup_of}
use Rattle.cx_rule.specs.Routine.{Rule}
use Rattle.cx_rule.specs.States.{State, rotate}
use Rattle.cx_rule.specs.Meter.{raised}
use Rattle.cx_field.specs.Patches.{PatchValue, with_numbers}
use Rattle.cx_field.specs.Sweeps.{RoseWithin}
use Rattle.cx_reduce.specs.Partials.{Reduced, IsReduction}
use Rattle.cx_cut.specs.Cuts.{Parts, owned, part_count}
use Rattle.cx_flat.specs.declared.op.Op.{Op}
use Rattle.cx_flat.specs.declared.op.Op.TheVariants.{Sweep, Apply, Give, Join, Post, Take, Test, Open, Turn, Again, Rotate, Due, Written, Skip, Next, Piece, Save, Halt}
use Rattle.cx_flat.specs.Flats.{Control}
use Rattle.cx_flat.specs.Laws.{FlatIsRun}
use Rattle.cx_flat.specs.Places.{OperationsMet}
use Rattle.cx_flat.specs.Ways.{WaysEnd}
use Rattle.law_network.specs.Machine.{After, Part, sum_below}
use Rattle.cx_wire.specs.Messages.{Sent as SentMail}
use Rattle.cx_wire.specs.Received.{counted}
use Rattle.cx_core_buffers.specs.Boards.{Given, IsReady, front, Gives, Takes as Joined}
use Rattle.cx_core_buffers.specs.Gathering.{Buffers, HasPiece, with_piece, with_state}
use Rattle.cx_core_buffers.specs.Checkpoints.{HoldsState}
use Rattle.cx_ghost.specs.Takes.{needed, BeginsWith}
use Rattle.cx_ghost.specs.declared.faults.PostFault.{PostFault}
use Rattle.cx_ghost.specs.declared.faults.PostFault.TheVariants as posts
use Rattle.law_parts.specs.Beginnings.{Beginning, IsBeginning, run_of}
use Rattle.law_parts.specs.Holding.{joined, join_turn}
use Rattle.law_parts.specs.Moves.{Message, Channel, number_by, held_values, Filled, turn_state}
use Rattle.law_parts.specs.Nets.{net, within_lead, points_of, values_of_op}
use Rattle.law_parts.specs.Operations.{IsCurrent}
use Rattle.law_parts.specs.Runs.{Run, cut_of, parts_in}
use Rattle.cx_core_part.specs.Exchanges.{Posts, Takes, ShowsTaken, sum_taken}
use Rattle.cx_core_part.specs.Frames.{IsPatchOf, KeepsFrame}
use Rattle.cx_core_part.specs.Items.{computed}
use Rattle.cx_core_part.specs.Jobs.{IsChecked, IsCutOf, IsOperation}
use Rattle.cx_core_events.specs.Shows.{PaceTells, SameWay}
use Rattle.cx_core_events.specs.Steps.{moved_on, met_by}
use Rattle.law_reached.specs.Endings.{end_met_by}
use Rattle.law_reached.specs.Sums.{TakenAddsUp}
use Rattle.cx_core.specs.declared.answers.CoreFault.{CoreFault}
use Rattle.cx_core.specs.declared.answers.CoreFault.TheVariants as faults
use Rattle.cx_core.specs.declared.answers.Outcome.{Outcome}
use Rattle.cx_core.specs.Cores.{Cores, items_of, outcome_of}
use Rattle.cx_core.specs.Steps.{Counts, IsAt}

-- ---- what an operation may change

-- a part's patch, the boards, the writer's buffers, the queues, and what was counted
pub record Holdings (tells : Type 0) : Type 0 where
  pub patch : PatchValue
  pub given : Given
  pub buffers : Buffers
  pub queue : ℕ → ℕ → List (SentMail tells)
  pub now : Counts

abbrev pub holdings : {tells : Type 0} → PatchValue → Given → Buffers
    → (ℕ → ℕ → List (SentMail tells)) → (points values sum : ℕ)
    → Holdings tells
holdings patch given buffers queue points values sum =
    record {
      patch = patch;
      given = given;
      buffers = buffers;
      queue = queue;
      now = record { points = points; values = values; sum = sum };
    }

-- the front numbers of the first parts for part k
abbrev pub all_fronts : Given → ℕ → ℕ → List ℤ
all_fronts g k zero = []
all_fronts g k (suc a) = all_fronts g k a ++ (front g a k).number ∷ []

-- ---- each operation

-- the turn of an item; where it meets Overflow, by that end
abbrev pub Turns : Run → ℕ → Op → ℕ → (old new : PatchValue) → (before after : ℕ) → Option Outcome
    → Type 0
Turns r k o iteration old new before after None =
    (computed r k o old.numbers iteration ≡ Some new.numbers)
    × (after ≡ raised before (points_of r k o))
Turns r k o iteration old new before after (Some met) =
    (computed r k o old.numbers iteration ≡ None) × (new.numbers ≡ old.numbers)
    × RoseWithin (points_of r k o) before after
    × (met ≡ outcome_of (end_met_by r o iteration))

-- the patch and the points that were counted may differ
pub record OnPatch {tells : Type 0} (was is : Holdings tells) : Type 0 where
  pub frame : KeepsFrame was.patch is.patch
  pub rest : is ≡ record was { patch = is.patch; now = record was.now { points = is.now.points } }

-- a WHILE's test finds its scalar not 0 behind its last turn
abbrev pub behind_last : Run → VarId → Control → State → Option State
behind_last r v c numbers = turn_state r v (record { count = 0; control = c; numbers = numbers })

abbrev pub LoopTests : Run → Op → VarId → Control → State → Option Outcome → Type 0
LoopTests r o v c numbers None = behind_last r v c numbers ≡ Some numbers
LoopTests r o v c numbers (Some met) =
    (behind_last r v c numbers ≡ None) × (met ≡ outcome_of (end_met_by r o c.iteration))

-- a number for a reduction goes to all boards of the part
pub record Offers {tells : Type 0} (r : Run) (k i : ℕ) (was is : Holdings tells) : Type 0 where
  pub number : Reduced
  pub kind : number.kind ≡ (item r.setup i).kind
  pub points : number.points ≡ point_count (owned (cut_of r) k)
  pub number_is : number.number ≡ number_by r k (held_values r k was.patch.numbers) i
  pub gives : Gives was.given k number is.given
  pub rest : is ≡ record was { given = is.given }

-- the number of all parts goes to the item's scalar; where it leaves the scalar's type the boards
-- are as before
abbrev pub joined_front : Run → ℕ → ℕ → Given → State → Option State
joined_front r k i given numbers =
    join_turn r.setup (item r.setup i) numbers
    (joined (item r.setup i).kind (all_fronts given k (parts_in r)))

abbrev pub Joins : Run → ℕ → ℕ → ℕ → (given later : Given) → (old new : PatchValue) → Option Outcome
    → Type 0
Joins r k i iteration given later old new None =
    (joined_front r k i given old.numbers ≡ Some new.numbers) × KeepsFrame old new
    × Joined given k later
Joins r k i iteration given later old new (Some met) =
    (joined_front r k i given old.numbers ≡ None) × KeepsFrame old new × (new.numbers ≡ old.numbers)
    × (later ≡ given)
    × (met ≡ outcome_of (end_met_by r (Join i) iteration))

-- faces are posted
pub record Sends {tells : Type 0} (r : Run) (k d : ℕ) (vars : List VarId) (count : ℕ)
    (was is : Holdings tells) : Type 0 where
  pub posts : (n : ℕ) → count ≡ n % 2 ^ 64
      → Posts r k (Post d vars) n was.patch.numbers was.queue is.queue
  pub sum : tells → is.now.sum ≡ was.now.sum
  pub rest : is ≡ record was { queue = is.queue; now = record was.now { sum = is.now.sum } }

-- ghosts are filled
pub record Fills {tells : Type 0} (r : Run) (k d : ℕ) (vars : List VarId)
    (was is : Holdings tells) : Type 0 where
  pub frame : KeepsFrame was.patch is.patch
  pub filled : (mails : Channel → List (Message tells)) → ShowsTaken r k d was.queue mails
      → Filled tells r k d vars mails was.patch.numbers is.patch.numbers
  pub queues : Takes r k d was.queue is.queue
  pub values : is.now.values ≡ counted was.now.values (values_of_op r k (Take d vars []))
  pub sum : (t : tells) (mails : Channel → List (Message tells)) → ShowsTaken r k d was.queue mails
      → is.now.sum ≡ (was.now.sum + sum_taken t r k mails) % 2 ^ 64
  pub rest : is ≡ record is
      { given = was.given; buffers = was.buffers; now = record is.now { points = was.now.points } }

-- What an operation does that a part does at this place, after so many operations; by the end that
-- it meets, or none.
abbrev pub Operates : {tells : Type 0} → Run → ℕ → Control → ℕ → Op → (was is : Holdings tells)
    → Option Outcome → Type 0
Operates r k c count (Sweep i) was is met =
    Turns r k (Sweep i) c.iteration was.patch is.patch was.now.points is.now.points met
    × OnPatch was is
Operates r k c count (Apply i) was is met =
    Turns r k (Apply i) c.iteration was.patch is.patch was.now.points is.now.points met
    × OnPatch was is
Operates r k c count (Give i) was is met = (met ≡ None) × Offers r k i was is
Operates r k c count (Join i) was is met =
    Joins r k i c.iteration was.given is.given was.patch is.patch met
    × (is ≡ record was { patch = is.patch; given = is.given })
Operates r k c count (Post d vars) was is met = (met ≡ None) × Sends r k d vars count was is
Operates r k c count (Take d vars path) was is met = (met ≡ None) × Fills r k d vars was is
Operates r k c count (Test v path skip) was is met = (met ≡ None) × (is ≡ was)
Operates r k c count Open was is met = (met ≡ None) × (is ≡ was)
Operates r k c count (Turn v path skip) was is met =
    LoopTests r (Turn v path skip) v c was.patch.numbers met × (is ≡ was)
Operates r k c count (Again back) was is met = (met ≡ None) × (is ≡ was)
Operates r k c count Rotate was is met =
    (met ≡ None) × (is ≡ record was { patch = with_numbers was.patch (rotate was.patch.numbers) })
Operates r k c count (Due skip) was is met = (met ≡ None) × (is ≡ was)
Operates r k c count (Written skip) was is met = (met ≡ None) × (is ≡ was)
Operates r k c count (Skip skip) was is met = (met ≡ None) × (is ≡ was)
Operates r k c count (Next back) was is met = (met ≡ None) × (is ≡ was)
Operates r k c count (Piece v) was is met =
    (met ≡ None) × (is ≡ record was { buffers = with_piece r.setup k was.patch v was.buffers })
Operates r k c count Save was is met =
    (met ≡ None) × (is ≡ record was { buffers = with_state r.setup k was.patch was.buffers })
Operates r k c count Halt was is met = (met ≡ None) × (is ≡ was)

-- ---- what an operation asks for

-- a number of one kind waits on each board to the part, together over the points of the grid at
-- most
pub record AreFronts (cut : Parts) (k : ℕ) (given : Given) : Type 0 where
  pub senders : length given.given ≡ part_count cut
  pub ready : IsReady given k
  pub reduction : IsReduction (front given 0 k).kind
  pub kinds : (a : ℕ) → a < part_count cut → (front given a k).kind ≡ (front given 0 k).kind
  pub few : sum_below (part_count cut) (λ a. (front given a k).points) ≤ 2 ^ 24

-- and it is that of the item
pub record HasFronts (job : Job) (cut : Parts) (k i : ℕ) (given : Given) : Type 0 where
  pub there : i < length job.items
  pub kind : (front given 0 k).kind ≡ (item (setup_of job) i).kind
  pub fronts : AreFronts cut k given

abbrev pub Asks : {tells : Type 0} → Job → Parts → ℕ → Op → Holdings tells → Type 0
Asks job cut k (Sweep i) was = i < length job.items
Asks job cut k (Apply i) was = i < length job.items
Asks job cut k (Join i) was = HasFronts job cut k i was.given
Asks job cut k (Give i) was = length was.given.given ≡ part_count cut
Asks job cut k (Take d vars path) was =
    (a : ℕ) → a < part_count cut → BeginsWith cut a d vars (needed cut k d a) (was.queue a k)
Asks job cut k (Piece v) was = IsCurrent (setup_of job) v × HasPiece (setup_of job) was.buffers v
Asks job cut k Save was = HoldsState (setup_of job) was.buffers.state
Asks job cut k (Post d vars) was = ⊤
Asks job cut k (Test v path skip) was = ⊤
Asks job cut k Open was = ⊤
Asks job cut k (Turn v path skip) was = ⊤
Asks job cut k (Again back) was = ⊤
Asks job cut k Rotate was = ⊤
Asks job cut k (Due skip) was = ⊤
Asks job cut k (Written skip) was = ⊤
Asks job cut k (Skip skip) was = ⊤
Asks job cut k (Next back) was = ⊤
Asks job cut k Halt was = ⊤

pub record CanOperate {tells : Type 0} (job : Job) (cut : Parts) (k : ℕ) (o : Op)
    (was : Holdings tells) : Type 0 where
  pub checked : IsChecked job
  pub cut_is : IsCutOf job cut
  pub part : k < part_count cut
  pub patch : IsPatchOf (setup_of job) cut k was.patch
  pub operation : IsOperation (setup_of job) o
  pub asks : Asks job cut k o was

-- why a post failed, as a core's fault
abbrev pub fault_of : PostFault → CoreFault
fault_of posts.Wire = faults.Wire
fault_of posts.Memory = faults.Memory

-- ---- where it leads

-- a part goes on after its operation, by the scalars, with the items of its iteration; or it has
-- met an end
abbrev pub followed : Setup → Cores → ℕ → (VarId → ℤ) → Option Outcome → Cores
followed setup core k scalars None =
    record core {
      pace = moved_on setup core.pace k scalars;
      items = items_of setup (moved_on setup core.pace k scalars);
    }
followed setup core k scalars (Some met) = record core { pace = met_by core.pace k; met = met }

-- the laws of a job's runs by these rules
pub record MoveLaws (job : Job) (rules : List Rule) : Type 0 where
  pub flat : FlatIsRun (setup_of job) rules
  pub ways : WaysEnd (setup_of job)
  pub met : OperationsMet (setup_of job) rules
  pub pace : (told : Bool) (b : Beginning) → IsBeginning (setup_of job) b
      → PaceTells (IsTrue told) (run_of job rules b)
  pub taken : (told : Bool) (b : Beginning) → IsBeginning (setup_of job) b
      → TakenAddsUp (IsTrue told) (run_of job rules b)

-- Where part k stands behind its operation, or that it has met an end. The key of the checkpoints,
-- the outputs' lengths and the outcome stay.
pub record MovesOn (setup : Setup) (k : ℕ) (old new : Cores) : Type 0 where
  pub pace : ((scalars : VarId → ℤ) × (new.pace ≡ moved_on setup old.pace k scalars))
      ⊎ (new.pace ≡ met_by old.pace k)
  pub key : new.buffers.state.key ≡ old.buffers.state.key
  pub lengths : new.lengths ≡ old.lengths
  pub outcome : new.outcome ≡ old.outcome

-- From where they are the operation of part k leads to a state that they show after it.
abbrev pub PartGoes : (tells : Type 0) → Run → Counts → ℕ → (old new : Cores)
    → (queue after : ℕ → ℕ → List (SentMail tells))
    → (now later : Counts) → Type 0
PartGoes tells r first k old new queue after now later =
    (at : IsAt tells r first old queue now)
    → (to : IsAt tells r first new after later)
    × After (net tells within_lead r at.oracle) at.world (Part k) to.world
    × MovesOn r.setup k old new × SameWay r at.oracle to.oracle to.world
