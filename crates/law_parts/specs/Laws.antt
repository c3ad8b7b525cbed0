-- What holds of a run in parts.
use Rattle.std.specs.Prelude.{ℕ, ◌<◌, ◌≡◌}
use Rattle.cx_model.specs.Runs.{Lengths}
use Rattle.law_network.specs.Machine.{World, Event, Can, After, begun}
use Rattle.law_network.specs.Agreement.{Woven, Ended}
use Rattle.law_network.specs.Orders.{EveryOrder}
use Rattle.law_parts.specs.Holding.{Held}
use Rattle.law_parts.specs.Moves.{Message, Channel}
use Rattle.law_parts.specs.Nets.{Nearness, net, within_lead}
use Rattle.law_parts.specs.Runs.{Run, Oracle, parts_in}
use Rattle.law_parts.specs.Truths.{truth, script, Agrees, Books}

-- ---- wires that tell

-- Whatever order the events of the parts come in: each part agrees with the undivided run at its
-- own place, each queue holds what was posted and not yet taken, some event can happen until the
-- end is reported, and that end is the undivided run's.
abbrev pub EachOrder : Nearness → Run → Type 0
EachOrder Near r =
    EveryOrder (net (Unit {0}) Near r (truth r)) (script (Unit {0}) r (truth r))
    (Agrees (Unit {0}) r (truth r))
    (λ k n x. Unit {0}) (Books (Unit {0}) r)

-- ---- wires that tell or don't

-- where wires tell, the oracle says what the parts give; and everywhere what they give at the first
-- place of all
pub record IsOracle (tells : Type 0) (r : Run) (oracle : Oracle) : Type 0 where
  pub told : tells → (k n : ℕ) → k < parts_in r → oracle k n ≡ truth r k n
  pub first : (k : ℕ) → k < parts_in r → oracle k 0 ≡ truth r k 0

-- a state that is reached: by what the parts have given and are to give, each of them agrees at its
-- own place and each queue is right; and where wires tell, ends are the undivided run's
pub record IsReachedState (tells : Type 0) (r : Run) (oracle : Oracle)
    (w : World Held (Message tells) Channel Lengths) : Type 0 where
  pub oracle_is : IsOracle tells r oracle
  pub woven : Woven (net tells within_lead r oracle) (script tells r oracle) (Agrees tells r oracle)
      (Books tells r) w
  pub ended : tells → Ended (net tells within_lead r oracle) (script tells r oracle) w

-- The run begins in such a state, and each event that can happen leads to one. The oracle behind it
-- may differ in what the part is to give next.
pub record StepsKeep (tells : Type 0) (r : Run) : Type 0 where
  pub begins : IsReachedState tells r (truth r) (begun (net tells within_lead r (truth r)))
  pub keeps : (oracle : Oracle) (w v : World Held (Message tells) Channel Lengths) (e : Event)
      → IsReachedState tells r oracle w
      → Can (net tells within_lead r oracle) w e → After (net tells within_lead r oracle) w e v
      → (other : Oracle) × IsReachedState tells r other v
