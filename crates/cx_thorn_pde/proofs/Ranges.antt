-- Which exact numbers have 64 bits.
use Rattle.std.proofs.Common.{◌≡◌, ℕ, ℤ, pos, negsuc, ◌/◌, ◌^◌, ◌<◌, ◌≤◌, ◌+ℤ◌, ◌≤ℤ◌, true, false, Some, None, arith, refl, w64}
use Rattle.std.proofs.lemmas.Int.{ints}
use Rattle.std.specs.Prelude.{nat_lt, FitsSigned}
use Rattle.std.specs.Int.{int_div_euclid, w128}
use Rattle.cx_thorn_pde.specs.Exact.{in_64_bits}

lt_true : (a b : ℕ) → a < b → nat_lt a b ≡ true
lt_true a b h = grind (arith, h)

lt_false : (a b : ℕ) → b ≤ a → nat_lt a b ≡ false
lt_false a b h = grind (arith, h)

pub fits : (n : ℤ) → FitsSigned w64 n → Some n ≡ in_64_bits n
fits (pos n) f = rw (lt_true n (2 ^ 63) f.sfits) refl
fits (negsuc n) f = rw (lt_true n (2 ^ 63) f.sfits) refl

by_size : {P : Type 0} (a b : ℕ) → (a < b → P) → (b ≤ a → P) → P
by_size a b low high = grind (arith, low, high)

not_below : (a b : ℕ) → (a < b → ⊥) → b ≤ a
not_below a b h = by_size a b (λ low. absurd (h low)) (λ high. high)

pub misfits : (n : ℤ) → (FitsSigned w64 n → ⊥) → None ≡ in_64_bits n
misfits (pos n) f = rw (lt_false n (2 ^ 63) (not_below n (2 ^ 63) (λ h. f (record { sfits = h }))))
    refl
misfits (negsuc n) f = rw
    (lt_false n (2 ^ 63) (not_below n (2 ^ 63) (λ h. f (record { sfits = h })))) refl

outside_high : (n : ℤ) → pos (2 ^ 63) ≤ℤ n → None ≡ in_64_bits n
outside_high (pos n) h = rw (lt_false n (2 ^ 63) (omega (arith, ints, h))) refl
outside_high (negsuc n) h = absurd (omega (arith, ints, h))

outside_low : (n : ℤ) → n ≤ℤ negsuc (2 ^ 63) → None ≡ in_64_bits n
outside_low (pos n) h = absurd (omega (arith, ints, h))
outside_low (negsuc n) h = rw (lt_false n (2 ^ 63) (omega (arith, ints, h))) refl

-- a 256th of what 128 bits don't hold is too far from 0 for a base to bring it back
pub far : (base z : ℤ) → negsuc (2 ^ 66) ≤ℤ base → base ≤ℤ pos (2 ^ 66) → (FitsSigned w128 z → ⊥)
    → None ≡ in_64_bits (base +ℤ int_div_euclid z (pos 256))
far base (pos a) l h f =
    let big : 2 ^ 127 ≤ a = not_below a (2 ^ 127) (λ s. f (record { sfits = s })) in
    let part : 2 ^ 119 ≤ a / 256 = omega (arith, big) in
    outside_high (base +ℤ pos (a / 256)) (omega (arith, ints, part, l))
far base (negsuc a) l h f =
    let big : 2 ^ 127 ≤ a = not_below a (2 ^ 127) (λ s. f (record { sfits = s })) in
    let part : 2 ^ 119 ≤ a / 256 = omega (arith, big) in
    outside_low (base +ℤ negsuc (a / 256)) (omega (arith, ints, part, h))

pub above : (z : ℤ) → FitsSigned w128 z → negsuc (2 ^ 119) ≤ℤ int_div_euclid z (pos 256)
above (pos a) f = omega (arith, ints)
above (negsuc a) f =
    let part : a / 256 ≤ 2 ^ 119 = omega (arith, f.sfits) in
    omega (arith, ints, part)

pub below : (z : ℤ) → FitsSigned w128 z → int_div_euclid z (pos 256) ≤ℤ pos (2 ^ 119)
below (pos a) f =
    let part : a / 256 ≤ 2 ^ 119 = omega (arith, f.sfits) in
    omega (arith, ints, part)
below (negsuc a) f = omega (arith, ints)
