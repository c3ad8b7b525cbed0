-- Sixteen numbers in a vector.
use Rattle.std.specs.Prelude.{ℕ, ◌/◌, ◌%◌, ◌^◌, ◌<◌, ◌≡◌, List, length, slice_index_or}

abbrev pub lane : List ℕ → ℕ → ℕ
lane v k = slice_index_or v k 0

-- the first so many of sixteen lanes hold a function's numbers
pub record HasLanes (v : List ℕ) (n : ℕ) (f : ℕ → ℕ) : Type 0 where
  pub long : length v ≡ 16
  pub each : (k : ℕ) → k < n → lane v k ≡ f k

-- the first so many bits of a number are a function's
abbrev pub HasBits : ℕ → ℕ → (ℕ → ℕ) → Type 0
HasBits bits n f = (k : ℕ) → k < n → bits / 2 ^ k % 2 ≡ f k
