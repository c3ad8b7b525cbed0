-- Where the parts stand in a state of a run in parts, and that this alone tells which events can
-- happen.
use Rattle.std.specs.Prelude.{ℕ, zero, suc, ◌+◌, ◌%◌, ◌^◌, ◌<◌, ◌≤◌, ◌≡◌, ◌↔◌, true, false, List, [], ◌++◌, length, Option, Some, None, is_some, slice_get}
use Rattle.std.specs.Option.{option_to_list}
use Rattle.cx_flat.specs.declared.op.Op.TheVariants.{Save}
use Rattle.cx_flat.specs.Code.{code}
use Rattle.cx_model.specs.Runs.{Lengths}
use Rattle.law_network.specs.Machine.{World, CanMove, IsNext, CanEnd, begun, taken_now, fronts, end_of}
use Rattle.law_network.specs.Machine as machine
use Rattle.cx_rule.specs.States.{scalar_of}
use Rattle.cx_core_place.specs.Steps.{IsReached}
use Rattle.law_parts.specs.Holding.{Held}
use Rattle.law_parts.specs.Laws.{IsReachedState}
use Rattle.law_parts.specs.Moves.{Message, Channel, Moves}
use Rattle.law_parts.specs.Nets.{net, within_lead, WritesAt}
use Rattle.law_parts.specs.Runs.{Run, Oracle, cut_of, parts_in, next_op, guided}
use Rattle.law_parts.specs.Truths.{truth}
use Rattle.cx_core_events.specs.declared.standing.Standing.{Standing}
use Rattle.cx_core_events.specs.declared.standing.Work.{Work}
use Rattle.cx_core_events.specs.declared.standing.Next.{Next}
use Rattle.cx_core_events.specs.declared.standing.Next.TheVariants.{Part, Write, End}
use Rattle.cx_core_events.specs.Paces.{Paces, part_of, op_of}
use Rattle.cx_core_events.specs.Events.{work_of, can_go, writer_going, events, has_saved, lies_ahead}
use Rattle.cx_core_events.specs.Steps.{all_at, moved_on, met_by, wrote_one, over_now}

-- the state of the network of a run
abbrev pub State : Type 0 → Type 0
State tells = World Held (Message tells) Channel Lengths

-- the work of the operation at a place, and the works of all places before one, in the run's order
abbrev pub work_there : Run → Oracle → ℕ → Option Work
work_there r oracle n = work_of (next_op r (guided r oracle n).control)
    (guided r oracle n).control.iteration

abbrev pub works_before : Run → Oracle → ℕ → List Work
works_before r oracle zero = []
works_before r oracle (suc n) = works_before r oracle n ++ option_to_list (work_there r oracle n)

-- ---- what shows a state

-- a part that holds x has done n operations
pub record StandsAt (n : ℕ) (x : Held) (s : Standing) : Type 0 where
  pub place : s.place ≡ x.control
  pub count : s.count ≡ n % 2 ^ 64

-- the least end that a part has met is that part's place
abbrev pub StopsAt : {tells : Type 0} → Run → State tells → Option ℕ → Type 0
StopsAt r w None = w.stop ≡ r.most
StopsAt r w (Some j) = (j < parts_in r) × (w.stop ≡ w.place j)

pub record ShowsPace (tells : Type 0) (r : Run) (oracle : Oracle) (w : State tells)
    (p : Paces) : Type 0 where
  pub cut : p.cut ≡ cut_of r
  pub ops : p.ops ≡ code r.setup
  pub lead : p.lead ≡ r.lead
  pub count : length p.parts ≡ parts_in r
  pub parts : (k : ℕ) → k < parts_in r → StandsAt (w.place k) (w.held k) (part_of p k)
  pub over : p.over ≡ is_some w.over
  pub stopped : StopsAt r w p.stopped
  -- no part stands before this one
  pub hind_part : p.hind < parts_in r
  pub hind_least : (k : ℕ) → k < parts_in r → w.place p.hind ≤ w.place k
  -- the foremost part has handed in all works that aren't done, and each part the first ones of
  -- them
  pub foremost : ℕ
  pub foremost_part : foremost < parts_in r
  pub behind : (k : ℕ) → k < parts_in r → w.place k ≤ w.place foremost
  pub works : works_before r oracle (w.place foremost) ≡ works_before r oracle w.wrote ++ p.works
  pub handed : (k : ℕ) → k < parts_in r
      → length (works_before r oracle (w.place k))
      ≡ length (works_before r oracle w.wrote) + (part_of p k).handed

-- ---- the writer's next checkpoint

-- It is that of the first place, from the writer's place on, at which the parts hand in a
-- checkpoint. That they come to this place isn't said: a part may meet an end before it.
pub record IsNextSave (r : Run) (oracle : Oracle) (wrote n : ℕ) : Type 0 where
  pub from : wrote ≤ n
  pub save : next_op r (guided r oracle n).control ≡ Save
  pub none_before : (m : ℕ) → wrote ≤ m → m < n → next_op r (guided r oracle m).control ≡ Save → ⊥

-- a part stands behind it
abbrev pub IsBehindSave : {tells : Type 0} → Run → Oracle → State tells → ℕ → Type 0
IsBehindSave r oracle w k = (n : ℕ) × IsNextSave r oracle w.wrote n × (n < w.place k)

-- ---- which events can happen

-- an event can happen
abbrev pub CanHappen : (tells : Type 0) → Run → Oracle → State tells → Next → Type 0
CanHappen tells r oracle w (Part k) = CanMove (net tells within_lead r oracle) w k
CanHappen tells r oracle w Write = (n : ℕ) × IsNext (net tells within_lead r oracle) w n
CanHappen tells r oracle w End = CanEnd (net tells within_lead r oracle) w

-- a list has exactly the events that can happen, each once
pub record AreEvents (tells : Type 0) (r : Run) (oracle : Oracle) (w : State tells)
    (es : List Next) : Type 0 where
  pub each : (k : ℕ) (e : Next) → slice_get es k ≡ Some e → CanHappen tells r oracle w e
  pub all : (e : Next) → CanHappen tells r oracle w e → (k : ℕ) × (slice_get es k ≡ Some e)
  pub once : (i k : ℕ) (e : Next) → slice_get es i ≡ Some e → slice_get es k ≡ Some e → i ≡ k

pub record TellsEvents (tells : Type 0) (r : Run) (oracle : Oracle) (w : State tells)
    (p : Paces) : Type 0 where
  pub events : AreEvents tells r oracle w (events p)
  pub part : (k : ℕ) → k < parts_in r
      → can_go p k ≡ true ↔ CanMove (net tells within_lead r oracle) w k
  pub write : writer_going p ≡ Some Write ↔ ((n : ℕ) × IsNext (net tells within_lead r oracle) w n)
  pub end : writer_going p ≡ Some End ↔ CanEnd (net tells within_lead r oracle) w
  -- the writer's next work is the first one
  pub work : (n : ℕ) → IsNext (net tells within_lead r oracle) w n
      → slice_get p.works 0 ≡ work_there r oracle n
  -- how many pieces of a part the writer hasn't taken
  pub pieces : (k : ℕ) → k < parts_in r → length (w.pieces k) ≡ (part_of p k).handed
  -- the operation of a part, and its place
  pub op : (k : ℕ) → k < parts_in r → op_of p k ≡ next_op r (w.held k).control
  pub reached : (k : ℕ) → k < parts_in r → IsReached r.setup (part_of p k).place
  -- which parts stand behind the writer's next checkpoint, and that not only operations of such
  -- parts can happen
  pub behind : (k : ℕ) → k < parts_in r → has_saved p k ≡ true ↔ IsBehindSave r oracle w k
  pub some_before : w.over ≡ None
      → (e : Next) × CanHappen tells r oracle w e × (lies_ahead p (Some e) ≡ false)

-- ---- what each event leaves

-- up to where each part stands the way of all parts is one, by two oracles
abbrev pub SameWay : {tells : Type 0} → Run → (oracle other : Oracle) → State tells → Type 0
SameWay r oracle other w = (j m : ℕ) → j < parts_in r → m ≤ w.place j
    → guided r other m ≡ guided r oracle m

-- The state that an event leads to is a reached one, and is shown by what the event leaves. The
-- oracle behind it may differ in what the part is to give next.
pub record KeepsPace (tells : Type 0) (r : Run) (oracle : Oracle) (w : State tells)
    (p : Paces) : Type 0 where
  pub moved : (k : ℕ) (y : Held) → CanMove (net tells within_lead r oracle) w k
      → Moves tells r k (w.held k) (taken_now (net tells within_lead r oracle) w k)
      (next_op r (w.held k).control) (Some y)
      → (other : Oracle) × IsReachedState tells r other
      (machine.moved (net tells within_lead r oracle) w k y)
      × ShowsPace tells r other (machine.moved (net tells within_lead r oracle) w k y)
      (moved_on r.setup p k (scalar_of (w.held k).numbers))
      × SameWay r oracle other (machine.moved (net tells within_lead r oracle) w k y)
  pub met : (k : ℕ) (meter : ℕ → ℕ) → CanMove (net tells within_lead r oracle) w k
      → Moves tells r k (w.held k) (taken_now (net tells within_lead r oracle) w k)
      (next_op r (w.held k).control) None
      → IsReachedState tells r oracle (machine.met w k meter)
      × ShowsPace tells r oracle (machine.met w k meter) (met_by p k)
  pub wrote : (n : ℕ) (book : Lengths) → IsNext (net tells within_lead r oracle) w n
      → WritesAt tells r (next_op r (guided r oracle n).control)
      (guided r oracle n).control.iteration (fronts w) w.book (Some book)
      → IsReachedState tells r oracle (machine.wrote_at w n book)
      × ShowsPace tells r oracle (machine.wrote_at w n book) (wrote_one p)
  pub full : (n : ℕ) → IsNext (net tells within_lead r oracle) w n
      → WritesAt tells r (next_op r (guided r oracle n).control)
      (guided r oracle n).control.iteration (fronts w) w.book None
      → IsReachedState tells r oracle (machine.over_at w n)
      × ShowsPace tells r oracle (machine.over_at w n) (over_now p)
  pub ended : CanEnd (net tells within_lead r oracle) w
      → IsReachedState tells r oracle
      (machine.over_at w (end_of (net tells within_lead r oracle) w))
      × ShowsPace tells r oracle (machine.over_at w (end_of (net tells within_lead r oracle) w))
      (over_now p)

-- ---- the law

-- all parts at the first place
abbrev pub first_paces : Run → Paces
first_paces r = all_at (cut_of r) (code r.setup) r.lead r.first.control

-- In each state that is reached, where the parts stand tells which events can happen, and each
-- event that happens is shown.
pub record PaceTells (tells : Type 0) (r : Run) : Type 0 where
  pub begins : ShowsPace tells r (truth r) (begun (net tells within_lead r (truth r)))
      (first_paces r)
  pub events : (oracle : Oracle) (w : State tells) (p : Paces) → IsReachedState tells r oracle w
      → ShowsPace tells r oracle w p
      → TellsEvents tells r oracle w p
  pub keeps : (oracle : Oracle) (w : State tells) (p : Paces) → IsReachedState tells r oracle w
      → ShowsPace tells r oracle w p
      → KeepsPace tells r oracle w p
