-- Numbers as 64 bits hold them.
use Rattle.std.specs.Prelude.{ℕ, ◌+◌, ◌-◌, ◌^◌, min, Bool, not, ℤ, pos, List, [], ◌∷◌}
use Rattle.std.specs.Int.{w64, cast_unsigned}
use Rattle.std.specs.Ordering.{int_eq}

-- a number, or where 64 bits don't hold it the greatest that they hold
abbrev pub in_64_bits : ℕ → ℕ
in_64_bits n = min n (2 ^ 64 - 1)

-- a number counts as true where it is not 0
abbrev pub is_not_zero : ℤ → Bool
is_not_zero n = not (int_eq n (pos 0))

-- the values together, each taken modulo 2^64
abbrev pub word_sum : List ℤ → ℕ
word_sum [] = 0
word_sum (n ∷ ns) = cast_unsigned w64 n + word_sum ns
