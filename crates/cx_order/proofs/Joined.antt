-- What is there of a list that grows, and what is still to come.
use Rattle.std.proofs.Common.{ℕ, Bool, List, ◌++◌, map, drop, Result, Ok, Err}
use Rattle.cx_plan.specs.Lists.{once_behind, all_ok}
use Rattle.cx_scope.specs.declared.fault.ScopeFault.{ScopeFault}
use Rattle.cx_order.specs.Meanings.{all_joined}

abbrev pub behind : {X : Type 0} → List X → Result (List X) ScopeFault → Result (List X) ScopeFault
behind there (Ok xs) = Ok (there ++ xs)
behind there (Err e) = Err e

-- what all elements give, joined
abbrev pub joined : {X Y : Type 0} → (X → Result (List Y) ScopeFault) → List X
    → Result (List Y) ScopeFault
joined f xs = all_joined (all_ok (map f xs))

-- each once
abbrev pub come : {X : Type 0} → (X → X → Bool) → List X → List X → ℕ → List X
come same xs there k = there ++ once_behind same there (drop k xs)
