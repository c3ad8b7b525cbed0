-- Exact numbers, and those of 64 bits.
use Rattle.std.specs.Prelude.{ℤ, pos, negsuc, ◌^◌, Option, Some, None, nat_lt, if◌then◌else◌}

-- an exact number where it has 64 bits with its sign, and none outside
abbrev pub in_64_bits : ℤ → Option ℤ
in_64_bits (pos n) = if nat_lt n (2 ^ 63) then Some (pos n) else None
in_64_bits (negsuc n) = if nat_lt n (2 ^ 63) then Some (negsuc n) else None
