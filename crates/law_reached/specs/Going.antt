-- What can happen in a state that a run in parts reaches, whatever its wires tell.
use Rattle.std.specs.Prelude.{ℕ, ◌<◌, ◌≤◌, ◌≡◌, Some, None}
use Rattle.cx_model.specs.Runs.{Lengths}
use Rattle.law_network.specs.Machine.{World, Event, Part, Write, End, Can, After, left, end_of, fronts, over_at}
use Rattle.law_parts.specs.Holding.{Held}
use Rattle.law_parts.specs.Laws.{IsReachedState}
use Rattle.law_parts.specs.Moves.{Message, Channel}
use Rattle.law_parts.specs.Nets.{net, within_lead}
use Rattle.law_parts.specs.Runs.{Run, Oracle, parts_in, guided, last_of}

-- Some event can happen until the run is over, each lessens what is left, and of the writer's
-- events at most one can happen.
pub record GoesOn (tells : Type 0) (r : Run) (oracle : Oracle)
    (w : World Held (Message tells) Channel Lengths) : Type 0 where
  pub some_event : w.over ≡ None → (e : Event) × Can (net tells within_lead r oracle) w e
  pub going : (e : Event) → Can (net tells within_lead r oracle) w e → w.over ≡ None
  pub falls : (e : Event) (v : World Held (Message tells) Channel Lengths)
      → Can (net tells within_lead r oracle) w e
      → After (net tells within_lead r oracle) w e v
      → left (net tells within_lead r oracle) v < left (net tells within_lead r oracle) w
  pub one_work : (m n : ℕ) → Can (net tells within_lead r oracle) w (Write m)
      → Can (net tells within_lead r oracle) w (Write n) → m ≡ n
  pub work_or_end : (n : ℕ) → Can (net tells within_lead r oracle) w (Write n)
      → Can (net tells within_lead r oracle) w End → ⊥

-- Where the end stands: at the last place, or where the end that the writer reports was met by a
-- part.
pub record EndStands (tells : Type 0) (r : Run) (oracle : Oracle)
    (w : World Held (Message tells) Channel Lengths) : Type 0 where
  pub at_last : w.stop ≡ r.most → end_of (net tells within_lead r oracle) w ≡ last_of r oracle
  pub at_stop : (w.stop ≡ r.most → ⊥)
      → (end_of (net tells within_lead r oracle) w ≡ w.stop) × (w.stop < last_of r oracle)

-- Which events make the run over: no operation of a part, a work that passes the limit, and the
-- report of the end.
pub record BecomesOver (tells : Type 0) (r : Run) (oracle : Oracle)
    (w v : World Held (Message tells) Channel Lengths) : Type 0 where
  pub by_part : (k : ℕ) → Can (net tells within_lead r oracle) w (Part k)
      → After (net tells within_lead r oracle) w (Part k) v
      → v.over ≡ None
  pub by_work : (n m : ℕ) → Can (net tells within_lead r oracle) w (Write n)
      → After (net tells within_lead r oracle) w (Write n) v
      → v.over ≡ Some m → (m ≡ n) × (v ≡ over_at w n)
      × (net tells within_lead r oracle).Writes n (fronts w) w.book None
  pub by_end : Can (net tells within_lead r oracle) w End
      → After (net tells within_lead r oracle) w End v
      → v.over ≡ Some (end_of (net tells within_lead r oracle) w)

-- of each state that is reached
pub record StatesGoOn (tells : Type 0) (r : Run) : Type 0 where
  pub goes_on : (oracle : Oracle) (w : World Held (Message tells) Channel Lengths)
      → IsReachedState tells r oracle w
      → GoesOn tells r oracle w
  pub end_stands : (oracle : Oracle) (w : World Held (Message tells) Channel Lengths)
      → IsReachedState tells r oracle w
      → EndStands tells r oracle w
  pub becomes_over : (oracle : Oracle) (w v : World Held (Message tells) Channel Lengths)
      → IsReachedState tells r oracle w
      → BecomesOver tells r oracle w v

-- Each event leads to a state that is reached. The oracle behind it may differ in what the part is
-- to give next, but the way that all parts have come stays the same.
abbrev pub KeepsWay : Type 0 → Run → Type 0
KeepsWay tells r =
    (oracle : Oracle) (w v : World Held (Message tells) Channel Lengths) (e : Event)
    → IsReachedState tells r oracle w
    → Can (net tells within_lead r oracle) w e → After (net tells within_lead r oracle) w e v
    → (other : Oracle) × IsReachedState tells r other v
    × ((k n : ℕ) → k < parts_in r → n ≤ v.place k → guided r other n ≡ guided r oracle n)
