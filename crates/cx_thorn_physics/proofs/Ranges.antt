-- Which exact numbers have 64 bits.
use Rattle.std.proofs.Common.{◌≡◌, ℕ, ℤ, pos, negsuc, ◌^◌, ◌<◌, ◌≤◌, true, false, Some, None, arith, refl, w64}
use Rattle.std.specs.Prelude.{nat_lt, FitsSigned}
use Rattle.cx_thorn_physics.specs.Exact.{in_64_bits}

pub lt_true : (a b : ℕ) → a < b → nat_lt a b ≡ true
lt_true a b h = grind (arith, h)

lt_false : (a b : ℕ) → b ≤ a → nat_lt a b ≡ false
lt_false a b h = grind (arith, h)

pub fits : (n : ℤ) → FitsSigned w64 n → Some n ≡ in_64_bits n
fits (pos n) f = rw (lt_true n (2 ^ 63) f.sfits) refl
fits (negsuc n) f = rw (lt_true n (2 ^ 63) f.sfits) refl

by_size : {P : Type 0} (a b : ℕ) → (a < b → P) → (b ≤ a → P) → P
by_size a b low high = grind (arith, low, high)

not_below : (a b : ℕ) → (a < b → ⊥) → b ≤ a
not_below a b h = by_size a b (λ low. absurd (h low)) (λ high. high)

pub misfits : (n : ℤ) → (FitsSigned w64 n → ⊥) → None ≡ in_64_bits n
misfits (pos n) f = rw (lt_false n (2 ^ 63) (not_below n (2 ^ 63) (λ h. f (record { sfits = h }))))
    refl
misfits (negsuc n) f = rw
    (lt_false n (2 ^ 63) (not_below n (2 ^ 63) (λ h. f (record { sfits = h })))) refl
