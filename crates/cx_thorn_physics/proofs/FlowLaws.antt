-- Flows fit the numbers that they are computed in.
use Rattle.std.proofs.Common.{◌≡◌, ap, Bool, true, if◌then◌else◌, ◌+ℤ◌, ℕ, zero, suc, ℤ, pos, negsuc, neg_ℤ, ◌+◌, ◌-◌, ◌/◌, ◌≤◌, ◌^◌, ◌*ℤ◌, ◌≤ℤ◌, arith, refl, lit<, w64}
use Rattle.std.specs.Prelude.{FitsSigned, unsigned_abs, int_div}
use Rattle.std.specs.Int.{w128}
use Rattle.std.proofs.lemmas.Int.{ints, fits_signed_mul}

size_of : (n : ℤ) (m : ℕ) → negsuc m ≤ℤ n → n ≤ℤ pos (m + 1) → unsigned_abs n ≤ m + 1
size_of (pos a) m low high = omega (arith, ints)
size_of (negsuc a) m low high = omega (arith, ints)

factor_size : (n : ℤ) → FitsSigned w64 n → unsigned_abs n ≤ 2 ^ 63
factor_size (pos a) f = omega (arith, f.sfits)
factor_size (negsuc a) f = omega (arith, f.sfits)

-- a factor of 64 bits times the difference of two numbers of 64 bits has 128 bits
pub product_fits : (factor difference : ℤ) → FitsSigned w64 factor
    → negsuc (2 ^ 64 - 2) ≤ℤ difference → difference ≤ℤ pos (2 ^ 64 - 1)
    → FitsSigned w128 (factor *ℤ difference)
product_fits factor difference fits low high =
    fits_signed_mul w128 factor difference (2 ^ 63) (2 ^ 64 - 2 + 1)
    (factor_size factor fits) (size_of difference (2 ^ 64 - 2) low high) (lit< tt)

least_of : (k m : ℕ) → k ≤ m → negsuc m ≤ℤ neg_ℤ (pos k)
least_of zero m h = omega (arith, ints)
least_of (suc k) m h = omega (arith, ints)

most_of : (k m : ℕ) → neg_ℤ (pos k) ≤ℤ pos m
most_of zero m = omega (arith, ints)
most_of (suc k) m = omega (arith, ints)

pub above : (z : ℤ) → FitsSigned w128 z → negsuc (2 ^ 119) ≤ℤ int_div z (pos 256)
above (pos a) f = omega (arith, ints)
above (negsuc a) f =
    let part : suc a / 256 ≤ 2 ^ 119 = omega (arith, f.sfits) in
    least_of (suc a / 256) (2 ^ 119) part

pub below : (z : ℤ) → FitsSigned w128 z → int_div z (pos 256) ≤ℤ pos (2 ^ 119)
below (pos a) f =
    let part : a / 256 ≤ 2 ^ 119 = omega (arith, f.sfits) in
    omega (arith, ints, part)
below (negsuc a) f = most_of (suc a / 256) (2 ^ 119)

-- ---- gains

pub if_there : (there : Bool) (n : ℤ) → there ≡ true → (if there then n else pos 0) ≡ n
if_there there n has = ap (λ (b : Bool). if b then n else pos 0) has

pub three_gains : (a b c d e f : ℤ) → a ≡ d → b ≡ e → c ≡ f → a +ℤ b +ℤ c ≡ d +ℤ e +ℤ f
three_gains a b c d e f p q r = rw (p, q, r) refl
