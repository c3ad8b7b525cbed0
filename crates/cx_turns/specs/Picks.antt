-- Turns by a linear congruence modulo 2^64.
use Rattle.std.specs.Prelude.{ℕ, ◌≡◌, ◌+◌, ◌*◌, ◌^◌, ◌%◌, ◌/◌, Option}

-- turns from a seed: the seed that they were begun from, if they were, and the last number
pub record Seeded : Type 0 where
  pub begun : Option ℕ
  pub state : ℕ

-- the number after a number
abbrev pub next : ℕ → ℕ
next state = (state * 6364136223846793005 + 1442695040888963407) % 2 ^ 64

-- the pick of one of so many, by the upper 31 bits
abbrev pub picked : ℕ → ℕ → ℕ
picked state n = state / 2 ^ 33 % n

-- turns from a seed pick the k-th of so many events: from one number to the number after it
abbrev pub IsNextPick : Seeded → ℕ → ℕ → Seeded → Type 0
IsNextPick was n k is = (is.state ≡ next was.state) × (k ≡ picked is.state n)
