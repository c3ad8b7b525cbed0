-- Numbers that rules are made of.
use Rattle.std.specs.Prelude.{ℕ, ℤ, ◌+◌, ◌*◌, ◌/◌, ◌%◌, ◌^◌, bit_xor}
use Rattle.std.specs.Int.{cast_unsigned, w64}

-- a step of the mixing: xor with the shifted number, then a product, in 64 bits
abbrev pub mixing : ℕ → ℕ → ℕ → ℕ
mixing shift factor h = bit_xor h (h / 2 ^ shift) * factor % 2 ^ 64

-- a number of 64 bits from a seed and a place
abbrev pub mix : ℕ → ℕ → ℕ
mix seed index =
    let first = (seed + index * 0x9E3779B97F4A7C15) % 2 ^ 64 in
    let third = mixing 27 0x94D049BB133111EB (mixing 30 0xBF58476D1CE4E5B9 first) in
    bit_xor third (third / 2 ^ 31)

-- a bit of a number's 64 bits in two's complement
abbrev pub bit_of : ℤ → ℕ → ℕ
bit_of number k = cast_unsigned w64 number / 2 ^ k % 2

-- a number of 64 bits from a seed of 64 bits with its sign, and a place
abbrev pub mix_from : ℤ → ℕ → ℕ
mix_from seed index = mix (cast_unsigned w64 seed) index
