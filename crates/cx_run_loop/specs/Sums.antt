-- What a run in parts counts that is cut anew at each checkpoint.
use Rattle.std.specs.Prelude.{ℕ, ◌+◌, ◌≡◌, ◌≤◌, List, [], ◌∷◌, ◌++◌}
use Rattle.cx_plan.specs.Setups.{Setup}
use Rattle.cx_rule.specs.Meter.{raised}
use Rattle.cx_rule.specs.States.{State}
use Rattle.cx_cut.specs.Cuts.{Parts}
use Rattle.cx_model.specs.Traces.{Entry, Turned, Overflowed, Exchanged, Tested, Rotated, Wrote, Saved}
use Rattle.cx_wire.specs.Received.{counted}
use Rattle.law_parts.specs.Work.{entry_work, entry_count, entry_sum, work, carried_count, total_sum}
use Rattle.cx_core.specs.Steps.{Counts}

-- the cut after an entry: the state at a checkpoint place chooses it
abbrev pub cut_after : (State → Parts) → Parts → Entry → Parts
cut_after again cut (Saved iteration state) = again state
cut_after again cut (Turned k iteration state) = cut
cut_after again cut (Overflowed k iteration state) = cut
cut_after again cut (Exchanged vars path state) = cut
cut_after again cut (Tested v path state) = cut
cut_after again cut (Rotated state) = cut
cut_after again cut (Wrote v iteration text state) = cut

-- what entries count, the first of them by this cut
abbrev pub counted_in : (Parts → Entry → ℕ) → (State → Parts) → Parts → List Entry → ℕ
counted_in count again cut [] = 0
counted_in count again cut (e ∷ es) =
    count cut e + counted_in count again (cut_after again cut e) es

-- the points that they compute, the values that they exchange, and the sum of these
abbrev pub work_in : Setup → (State → Parts) → Parts → List Entry → ℕ
work_in setup again cut es = counted_in (entry_work setup) again cut es

abbrev pub carried_in : Setup → (State → Parts) → Parts → List Entry → ℕ
carried_in setup again cut es = counted_in (entry_count setup) again cut es

abbrev pub sum_in : Setup → (State → Parts) → Parts → List Entry → ℕ
sum_in setup again cut es = counted_in (entry_sum setup) again cut es

-- no more points and values were counted than these entries count
pub record CountsBelow (setup : Setup) (again : State → Parts) (cut : Parts) (es : List Entry)
    (first now : Counts) : Type 0 where
  pub points : now.points ≤ raised first.points (work_in setup again cut es)
  pub values : now.values ≤ counted first.values (carried_in setup again cut es)

-- ---- the law

-- no checkpoint place is among them
abbrev pub IsUnsaved : Entry → Type 0
IsUnsaved (Saved iteration state) = ⊥
IsUnsaved _ = Unit {0}

abbrev pub AreUnsaved : List Entry → Type 0
AreUnsaved [] = Unit {0}
AreUnsaved (e ∷ es) = IsUnsaved e × AreUnsaved es

-- What all entries count is what those up to a checkpoint place count by one cut, and those after
-- it from the next cut on.
abbrev pub Adds : (Setup → (State → Parts) → Parts → List Entry → ℕ)
    → (Setup → Parts → List Entry → ℕ) → Setup → Type 0
Adds all one setup =
    (again : State → Parts) (cut : Parts) (earlier later : List Entry) (c : ℕ) (state : State)
    → AreUnsaved earlier
    → all setup again cut (earlier ++ Saved c state ∷ later)
    ≡ one setup cut earlier + all setup again (again state) later

-- With one cut entries count what they always do.
abbrev pub IsOne : (Setup → (State → Parts) → Parts → List Entry → ℕ)
    → (Setup → Parts → List Entry → ℕ) → Setup → Type 0
IsOne all one setup =
    (cut : Parts) (es : List Entry) → all setup (λ state. cut) cut es ≡ one setup cut es

pub record SumsAdd (setup : Setup) : Type 0 where
  pub one_work : IsOne work_in work setup
  pub one_count : IsOne carried_in carried_count setup
  pub one_sum : IsOne sum_in total_sum setup
  pub work_adds : Adds work_in work setup
  pub count_adds : Adds carried_in carried_count setup
  pub sum_adds : Adds sum_in total_sum setup
