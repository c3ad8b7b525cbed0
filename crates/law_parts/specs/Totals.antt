-- What a run in parts has counted when it is done, whatever the order of its events.
use Rattle.std.specs.Prelude.{ℕ, ◌≡◌, List, Some}
use Rattle.cx_plan.specs.Setups.{Setup}
use Rattle.cx_rule.specs.Routine.{Rule}
use Rattle.cx_model.specs.Traces.{Entry, Trace}
use Rattle.cx_model.specs.Runs.{Lengths, undivided_run, continued_run}
use Rattle.cx_cut.specs.Cuts.{Parts}
use Rattle.law_network.specs.Machine.{World, Event, begun}
use Rattle.law_network.specs.Orders.{Order}
use Rattle.law_parts.specs.Beginnings.{Beginning, Afresh, From}
use Rattle.law_parts.specs.Holding.{Held}
use Rattle.law_parts.specs.Moves.{Message, Channel}
use Rattle.law_parts.specs.Nets.{Nearness, net}
use Rattle.law_parts.specs.Runs.{Run, cut_of, last_of}
use Rattle.law_parts.specs.Truths.{truth}
use Rattle.law_parts.specs.Work.{work, carried_count}

-- the undivided run from a beginning
abbrev pub undivided_from : Setup → List Rule → Beginning → Trace
undivided_from setup rules Afresh = undivided_run setup rules
undivided_from setup rules (From c state so_far) = continued_run setup rules c state so_far

-- meter 0 shows the points that these entries compute, meter 1 the values that they exchange
pub record CountsAll (setup : Setup) (cut : Parts) (entries : List Entry)
    (meter : ℕ → ℕ) : Type 0 where
  pub points : meter 0 ≡ work setup cut entries
  pub received : meter 1 ≡ carried_count setup cut entries

-- In every order of events: where the run in parts is over at its last place, its meters show what
-- the undivided run's entries say.
abbrev pub DoneCounts : Nearness → Run → Trace → Type 0
DoneCounts Near r trace =
    (events : List Event) (w : World Held (Message (Unit {0})) Channel Lengths)
    → Order (net (Unit {0}) Near r (truth r)) (λ k n x. Unit {0})
    (begun (net (Unit {0}) Near r (truth r))) events w
    → w.over ≡ Some (last_of r (truth r))
    → CountsAll r.setup (cut_of r) trace.entries w.meter
