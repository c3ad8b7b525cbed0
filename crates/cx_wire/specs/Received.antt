-- What a wire has given out: how many values, and their sum.
use Rattle.std.specs.Prelude.{◌≡◌, ℕ, ◌+◌, ◌-◌, ◌^◌, min, max, ℤ, List, [], ◌∷◌}
use Rattle.std.specs.Int.{w64, cast_unsigned}
use Rattle.std.proofs.Common.{arith}

-- a count and some more, up to the last number of 64 bits, where it stands still
abbrev pub counted : ℕ → ℕ → ℕ
counted count values = max count (min (count + values) (2 ^ 64 - 1))

pub counted_none : (count : ℕ) → count ≡ counted count 0
counted_none count = omega arith

pub counted_twice : (count a b : ℕ) → counted (counted count a) b ≡ counted count (a + b)
counted_twice count a b = omega arith
