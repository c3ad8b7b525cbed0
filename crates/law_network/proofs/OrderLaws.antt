-- Every order of events keeps what holds in each state.
use Rattle.std.proofs.Common.{ℕ, List, [], ◌∷◌}
use Rattle.law_network.specs.Machine.{Net, World, Event, begun}
use Rattle.law_network.specs.Agreement.{Script, Fits, Ends, Woven, Ended}
use Rattle.law_network.specs.Orders.{Order, Holds, EveryOrder}
use Rattle.law_network.proofs.Runs as Runs

module _ {L M C K B : Type 0} (N : Net L M C K B) (S : Script M C)
    (Agrees Gives : ℕ → ℕ → L → Type 0) (Books : ℕ → B → Type 0)
    (fits : Fits N S Agrees Gives Books) (ends : Ends N S Agrees Books) where
  state_holds : (w : World L M C B) → Woven N S Agrees Books w → Ended N S w
      → Holds N S Agrees Books w
  state_holds w woven ended = record {
    woven = woven;
    ended = ended;
    goes_on = Runs.some_event N S Agrees Gives Books fits w woven;
    falls = λ e v. Runs.falls N S Agrees Gives Books fits w v woven e;
    done = λ o. record {
      meter = Runs.done_meter N S Agrees Gives Books fits w woven ends ended o;
      queues = Runs.done_queues N S Agrees Gives Books fits w woven ended o;
    };
  }

  pub order_holds : (events : List Event) (w v : World L M C B) → Woven N S Agrees Books w
      → Ended N S w
      → Order N Gives w events v → Holds N S Agrees Books v
  order_holds [] w v woven ended o = rw o (state_holds w woven ended)
  order_holds (e ∷ es) w v woven ended o =
      order_holds es o.0 v
      (Runs.event_kept N S Agrees Gives Books fits w o.0 woven e o.1 o.2 o.3)
      (Runs.event_ended N S Agrees Gives Books fits ends w o.0 woven ended e o.1 o.2)
      o.4

  pub all_orders : EveryOrder N S Agrees Gives Books
  all_orders events w = order_holds events (begun N) w
      (Runs.begun_woven N S Agrees Gives Books fits)
      (Runs.begun_ended N S Agrees Gives Books fits ends)
