-- What a call of a sink does to the bytes written.
use Rattle.std.specs.Prelude.{◌≡◌, ℕ, List, ◌++◌}

-- the bytes come after what was written
abbrev pub Adds : List ℕ → List ℕ → List ℕ → Type 0
Adds bytes old new = new ≡ old ++ bytes

-- a part of the front of the bytes comes after what was written
pub record AddsFront (bytes old new : List ℕ) : Type 0 where
  pub front : List ℕ
  pub rest : List ℕ
  pub whole : front ++ rest ≡ bytes
  pub added : Adds front old new
