-- How a core and the queues of a wire show a state of a run in parts.
use Rattle.std.specs.Prelude.{ℕ, zero, suc, ◌<◌, ◌≡◌, List, [], ◌∷◌, ◌++◌, map, length, take, Option, Some, None, slice_get}
use Rattle.std.specs.List.{AllZip}
use Rattle.cx_plan.specs.declared.variable.VarId.{VarId}
use Rattle.cx_grid.specs.Boxes.{point_count}
use Rattle.cx_plan.specs.declared.item.ItemKind.{ItemKind}
use Rattle.cx_plan.specs.Lookups.{item}
use Rattle.cx_rule.specs.States.{State, level_of}
use Rattle.cx_cut.specs.Cuts.{owned}
use Rattle.cx_model.specs.declared.ends.End.{End}
use Rattle.cx_model.specs.Runs.{Lengths}
use Rattle.cx_outputs.specs.Names.{lengths_in}
use Rattle.law_network.specs.Machine.{World}
use Rattle.cx_field.specs.Patches.{PatchValue}
use Rattle.cx_reduce.specs.Partials.{Reduced}
use Rattle.cx_wire.specs.Messages.{Sent as SentMail}
use Rattle.cx_flat.specs.declared.op.Op.{Op}
use Rattle.cx_flat.specs.declared.op.Op.TheVariants.{Give}
use Rattle.law_parts.specs.Holding.{Held}
use Rattle.law_parts.specs.Moves.{Message, Sent, Given, Handed, Channel, Wire, Board}
use Rattle.law_parts.specs.Runs.{Run, Oracle, cut_of, parts_in, next_op, guided, last_of}
use Rattle.cx_core_part.specs.Exchanges.{ShowsQueue}
use Rattle.cx_core_part.specs.Frames.{IsPatchOf}
use Rattle.cx_core_buffers.specs.Boards.{queue as waiting}
use Rattle.cx_core_buffers.specs.Gathering.{Buffers, HasRoom}
use Rattle.cx_core_buffers.specs.Pieces.{HoldsPiece, HoldsPart}
use Rattle.cx_core_events.specs.declared.standing.Work.{Work}
use Rattle.cx_core_events.specs.Paces.{part_of}
use Rattle.cx_core_events.specs.Shows.{ShowsPace}
use Rattle.law_reached.specs.Endings.{end_met_by}
use Rattle.cx_core.specs.declared.answers.Outcome.{Outcome}
use Rattle.cx_core.specs.declared.answers.Outcome.TheVariants.{Going}
use Rattle.cx_core.specs.Cores.{Cores, outcome_of}

-- the patch of a part has the numbers that the part holds
pub record ShowsPart (r : Run) (k : ℕ) (p : PatchValue) (x : Held) : Type 0 where
  pub frame : IsPatchOf r.setup (cut_of r) k p
  pub numbers : p.numbers ≡ x.numbers

-- numbers that part a has given for reductions, one by one
abbrev pub ShowsGiven : {tells : Type 0} → Run → ℕ → Reduced → Message tells → Type 0
ShowsGiven r a x (Given number) =
    (x.number ≡ number) × (x.points ≡ point_count (owned (cut_of r) a))
ShowsGiven r a x (Sent h values) = ⊥
ShowsGiven r a x (Handed n state) = ⊥

-- the kind of the number that an operation gives
abbrev pub kinds_by : Run → Op → List ItemKind
kinds_by r (Give i) = (item r.setup i).kind ∷ []
kinds_by r _ = []

-- the kinds of all that a part gives before place n, and of what it has joined there: an operation
-- joins what was given at the place before it
abbrev pub kinds_given : Run → Oracle → ℕ → List ItemKind
kinds_given r oracle zero = []
kinds_given r oracle (suc n) =
    kinds_given r oracle n ++ kinds_by r (next_op r (guided r oracle n).control)

abbrev pub kinds_joined : Run → Oracle → ℕ → List ItemKind
kinds_joined r oracle zero = []
kinds_joined r oracle (suc n) = kinds_given r oracle n

abbrev pub kind_of : Reduced → ItemKind
kind_of x = x.kind

-- the buffers hold a part's piece of a work, which is a state over its owned points
abbrev pub HoldsFor : Run → Buffers → ℕ → Option VarId → State → Type 0
HoldsFor r b k None state = HoldsPart r.setup (cut_of r) b.state k state
HoldsFor r b k (Some v) state =
    HoldsPiece r.setup (cut_of r) b v k (level_of state (record { 0 = 0 }) 0)

-- the same of the piece that the part has handed in, where wires tell
abbrev pub HoldsWork : {tells : Type 0} → Run → Buffers → ℕ → Work → Message tells → Type 0
HoldsWork r b k work (Sent h values) = ⊥
HoldsWork r b k work (Given number) = ⊥
HoldsWork {tells} r b k work (Handed n state) = (t : tells) → HoldsFor r b k work.var (state t)

-- the end that a part met at the stop, or none
abbrev pub MetAt : {tells : Type 0} → Run → Oracle → World Held (Message tells) Channel Lengths
    → Outcome → Type 0
MetAt r oracle w met =
    (w.stop ≡ r.most → met ≡ Going)
    × ((w.stop ≡ r.most → ⊥) → (end : End)
    × (end_met_by r (next_op r (guided r oracle w.stop).control)
    (guided r oracle w.stop).control.iteration ≡ Some end)
    × (met ≡ outcome_of (Some end)))

-- how a run that is over has ended
abbrev pub OverAs : Run → Oracle → Option ℕ → Outcome → Type 0
OverAs r oracle None outcome = outcome ≡ Going
OverAs r oracle (Some n) outcome =
    (n ≡ last_of r oracle → outcome ≡ outcome_of None)
    × ((n ≡ last_of r oracle → ⊥) → (end : End)
    × (end_met_by r (next_op r (guided r oracle n).control) (guided r oracle n).control.iteration
    ≡ Some end)
    × (outcome ≡ outcome_of (Some end)))

pub record Shows (tells : Type 0) (r : Run) (oracle : Oracle) (core : Cores)
    (queue : ℕ → ℕ → List (SentMail tells))
    (w : World Held (Message tells) Channel Lengths) : Type 0 where
  pub pace : ShowsPace tells r oracle w core.pace
  pub count : length core.patches ≡ parts_in r
  pub patches : (k : ℕ) (p : PatchValue) → slice_get core.patches k ≡ Some p
      → ShowsPart r k p (w.held k)
  pub wires : (a b : ℕ) → a < parts_in r → b < parts_in r
      → ShowsQueue (queue a b) (w.queue (Wire a b))
  -- no message is in any other queue
  pub others : (a b : ℕ) → (a < parts_in r → b < parts_in r → ⊥) → queue a b ≡ []
  pub senders : length core.given.given ≡ parts_in r
  pub boards : (a b : ℕ) → a < parts_in r → b < parts_in r
      → AllZip (ShowsGiven r a) (waiting core.given a b) (w.queue (Board a b))
  -- each board has the kinds that its sender has given and its receiver hasn't joined
  pub kinds : (a b : ℕ) → a < parts_in r → b < parts_in r
      → kinds_given r oracle (w.place a)
      ≡ kinds_joined r oracle (w.place b) ++ map kind_of (waiting core.given a b)
  pub pieces : (k : ℕ) → k < parts_in r
      → AllZip (HoldsWork r core.buffers k) (take (part_of core.pace k).handed core.pace.works)
      (w.pieces k)
  pub room : HasRoom r.setup core.buffers
  pub book : core.lengths ≡ lengths_in r.setup.out_vars w.book
  pub met : MetAt r oracle w core.met
  pub over : OverAs r oracle w.over core.outcome
