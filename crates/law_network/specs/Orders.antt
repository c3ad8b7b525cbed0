-- What holds of every order in which the events of a network come.
use Rattle.std.specs.Prelude.{◌≡◌, ℕ, ◌<◌, List, [], ◌∷◌, ◌++◌, Some, None}
use Rattle.law_network.specs.Machine.{Net, World, Event, Part, Write, End, Can, After, begun, left, sum_below}
use Rattle.law_network.specs.Agreement.{Script, Woven, Ended, posted, taken}

-- what a part will give after its operation was foretold
abbrev pub Foretold : {L M C B : Type 0} → (ℕ → ℕ → L → Type 0) → World L M C B → Event → Type 0
Foretold Gives v (Part k) = Gives k (v.place k) (v.held k)
Foretold Gives v (Write n) = Unit {0}
Foretold Gives v End = Unit {0}

-- one order of events, each of which can happen where it does
abbrev pub Order : {L M C K B : Type 0} → Net L M C K B → (ℕ → ℕ → L → Type 0) → World L M C B
    → List Event
    → World L M C B → Type 0
Order N Gives w [] v = v ≡ w
Order {L} {M} {C} {K} {B} N Gives w (e ∷ es) v =
    (u : World L M C B) × Can N w e × After N w e u × Foretold Gives u e × Order N Gives u es v

-- the run is done at its last place: all was counted, and no message is left but those of the last
-- operation
pub record IsDone {L M C K B : Type 0} (N : Net L M C K B) (S : Script M C)
    (w : World L M C B) : Type 0 where
  pub meter : (i : ℕ) → w.meter i
      ≡ sum_below N.last (λ n. sum_below N.parts (λ k. N.cost i k (N.way n)))
  pub queues : (c : C) → N.sender c < N.parts → N.receiver c < N.parts
      → posted S c N.last ≡ taken S c N.last ++ w.queue c

-- what holds in a state that is reached
pub record Holds {L M C K B : Type 0} (N : Net L M C K B) (S : Script M C)
    (Agrees : ℕ → ℕ → L → Type 0) (Books : ℕ → B → Type 0) (w : World L M C B) : Type 0 where
  pub woven : Woven N S Agrees Books w
  pub ended : Ended N S w
  pub goes_on : w.over ≡ None → (e : Event) × Can N w e
  pub falls : (e : Event) (v : World L M C B) → Can N w e → After N w e v → left N v < left N w
  pub done : w.over ≡ Some N.last → IsDone N S w

-- every order leads to states in which this holds
abbrev pub EveryOrder : {L M C K B : Type 0} → Net L M C K B → Script M C → (ℕ → ℕ → L → Type 0)
    → (ℕ → ℕ → L → Type 0)
    → (ℕ → B → Type 0) → Type 0
EveryOrder {L} {M} {C} {K} {B} N S Agrees Gives Books =
    (events : List Event) (w : World L M C B) → Order N Gives (begun N) events w
    → Holds N S Agrees Books w
