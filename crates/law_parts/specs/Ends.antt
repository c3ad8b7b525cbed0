-- The end at a place, and that a run in parts ends as the undivided run does.
use Rattle.std.specs.Prelude.{ℕ, zero, suc, ◌≡◌, List, [], ◌∷◌, ◌++◌, Option, Some, None, if◌then◌else◌}
use Rattle.cx_rule.specs.States.{State}
use Rattle.cx_model.specs.declared.ends.End.{End}
use Rattle.cx_model.specs.declared.ends.End.TheVariants.{OutputLimit}
use Rattle.cx_model.specs.Courses.{Note}
use Rattle.cx_model.specs.Traces.{Entry, Outcome, Goes, Ends, Trace}
use Rattle.cx_model.specs.Runs.{Lengths}
use Rattle.law_network.specs.Machine.{World, Event, begun}
use Rattle.law_network.specs.Orders.{Order}
use Rattle.law_parts.specs.Holding.{Held}
use Rattle.law_parts.specs.Moves.{Message, Channel}
use Rattle.law_parts.specs.Nets.{Nearness, net}
use Rattle.law_parts.specs.Runs.{Run, undivided, notes_of}
use Rattle.law_parts.specs.Truths.{truth, is_full, entries_of}

-- the first of two, where there is one
abbrev pub or_end : Option End → Option End → Option End
or_end None rest = rest
or_end (Some end) rest = Some end

-- the first end of some notes
abbrev pub met_of : List Note → Option End
met_of [] = None
met_of (n ∷ ns) = or_end n.met (met_of ns)

-- the end that is met at a place, by the limit of an output or by what is noted there
abbrev pub end_at : Run → ℕ → Option End
end_at r n = if is_full r n then Some (OutputLimit (undivided r n).control.iteration)
    else met_of (notes_of r n)

-- what is noted before a place
abbrev pub noted : Run → ℕ → List Note
noted r zero = []
noted r (suc n) = noted r n ++ notes_of r n

-- an outcome with this end, or with none
abbrev pub EndsBy : Option End → Outcome → Type 0
EndsBy None outcome = (state : State) × (outcome ≡ Goes state)
EndsBy (Some end) outcome = outcome ≡ Ends end

-- a run that is over at this place: it ends by what is met there, behind all entries that are noted
-- before it
pub record EndsAt (r : Run) (trace : Trace) (n : ℕ) : Type 0 where
  pub ends : EndsBy (end_at r n) trace.outcome
  pub earlier : (later : List Entry) × (trace.entries ≡ entries_of (noted r n) ++ later)

-- In every order of events: where the run in parts is over at a place, the undivided run ends
-- there.
abbrev pub OneEnd : Nearness → Run → Trace → Type 0
OneEnd Near r trace =
    (events : List Event) (w : World Held (Message (Unit {0})) Channel Lengths)
    → Order (net (Unit {0}) Near r (truth r)) (λ k n x. Unit {0})
    (begun (net (Unit {0}) Near r (truth r))) events w
    → (n : ℕ) → w.over ≡ Some n → EndsAt r trace n
