-- What a run in parts whose wires tell has counted and taken.
use Rattle.std.specs.Prelude.{ℕ, ◌+◌, ◌<◌, ◌≡◌, [], Some}
use Rattle.cx_model.specs.Traces.{Trace}
use Rattle.cx_model.specs.Runs.{Lengths}
use Rattle.law_network.specs.Machine.{World, Part, Can, taken_now, moved, sum_below}
use Rattle.law_parts.specs.Holding.{Held}
use Rattle.law_parts.specs.Laws.{IsOracle, IsReachedState}
use Rattle.law_parts.specs.Moves.{Message, Channel, Wire, Board}
use Rattle.law_parts.specs.Nets.{net, within_lead, values_sum, taken_sum}
use Rattle.law_parts.specs.Runs.{Run, Oracle, cut_of, parts_in, last_of}
use Rattle.law_parts.specs.Totals.{CountsAll}
use Rattle.law_parts.specs.Work.{total_sum}

-- ---- a run that is done

-- Over at its last place: the meters and the sum of all values taken are what the run's entries
-- say, and no message is left.
pub record TotalsMatch {tells : Type 0} (t : tells) (r : Run) (trace : Trace) (oracle : Oracle)
    (w : World Held (Message tells) Channel Lengths) : Type 0 where
  pub counts : CountsAll r.setup (cut_of r) trace.entries w.meter
  pub sum : taken_sum t r oracle w ≡ total_sum r.setup (cut_of r) trace.entries
  pub wires : (a b : ℕ) → a < parts_in r → b < parts_in r → w.queue (Wire a b) ≡ []
  pub boards : (a b : ℕ) → a < parts_in r → b < parts_in r → w.queue (Board a b) ≡ []

abbrev pub DoneMatches : Type 0 → Run → Trace → Type 0
DoneMatches tells r trace =
    (t : tells) (oracle : Oracle) (w : World Held (Message tells) Channel Lengths)
    → IsReachedState tells r oracle w
    → w.over ≡ Some (last_of r oracle) → TotalsMatch t r trace oracle w

-- ---- one event

-- the sum of the values that the next operation of a part takes of wires
abbrev pub sum_taken_now : {tells : Type 0} → tells → Run → Oracle
    → World Held (Message tells) Channel Lengths → ℕ → ℕ
sum_taken_now {tells} t r oracle w k =
    sum_below (parts_in r) (λ a.
    values_sum t (taken_now (net tells within_lead r oracle) w k (Wire a k)))

-- The sum of all values taken grows by what the operation of a part takes, and by nothing else.
pub record SumGrows {tells : Type 0} (t : tells) (r : Run) (oracle other : Oracle)
    (w : World Held (Message tells) Channel Lengths) : Type 0 where
  pub goes_on : (k : ℕ) (y : Held) → Can (net tells within_lead r oracle) w (Part k)
      → taken_sum t r other (moved (net tells within_lead r oracle) w k y)
      ≡ taken_sum t r oracle w + sum_taken_now t r oracle w k
  pub stays : (v : World Held (Message tells) Channel Lengths)
      → ((k : ℕ) → k < parts_in r → v.place k ≡ w.place k)
      → taken_sum t r other v ≡ taken_sum t r oracle w

abbrev pub TakenAddsUp : Type 0 → Run → Type 0
TakenAddsUp tells r =
    (t : tells) (oracle other : Oracle) (w : World Held (Message tells) Channel Lengths)
    → IsReachedState tells r oracle w
    → IsOracle tells r other → SumGrows t r oracle other w
