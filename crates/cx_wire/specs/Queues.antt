-- What a call does to the queues of a wire, one for each ordered pair of parts.
use Rattle.std.specs.Prelude.{ℕ, ◌≡◌, ◌==◌, ◌&&◌, List, [], ◌∷◌, ◌++◌, Result, Ok, Err, if◌then◌else◌}

-- the message at one pair, and none at the others
abbrev pub at_pair : {M : Type 0} → ℕ → ℕ → M → ℕ → ℕ → List M
at_pair from to m a b = if a == from && b == to then m ∷ [] else []

-- one queue has a message more at its end
abbrev pub Gains : {M : Type 0} → (old new : ℕ → ℕ → List M) → ℕ → ℕ → M → Type 0
Gains old new from to m = (a b : ℕ) → new a b ≡ old a b ++ at_pair from to m a b

-- one queue has lost the message in front
abbrev pub Loses : {M : Type 0} → (old new : ℕ → ℕ → List M) → ℕ → ℕ → M → Type 0
Loses old new from to m = (a b : ℕ) → old a b ≡ at_pair from to m a b ++ new a b

abbrev pub SameQueues : {M : Type 0} → (old new : ℕ → ℕ → List M) → Type 0
SameQueues old new = (a b : ℕ) → new a b ≡ old a b

-- an answer without the mail that an error hands back
abbrev pub fault_alone : {T F M : Type 0} → Result T (F × M) → Result T F
fault_alone (Ok x) = Ok x
fault_alone (Err e) = Err e.0
