-- Numbers near 0, and what is computed of them.
use Rattle.std.proofs.Common.{◌≡◌, ◌≢◌, ℕ, ℤ, pos, negsuc, ◌+◌, ◌<◌, ◌≤◌, ◌/◌, ◌^◌, ◌*ℤ◌, ◌≤ℤ◌, ◌⊎◌, inl, inr, List, arith, refl, sym, subst, lit<, w64}
use Rattle.std.specs.Prelude.{FitsSigned, unsigned_abs, bit_or}
use Rattle.std.specs.Int.{int_div_euclid}
use lib.Signed.{shr_z}
use Rattle.std.proofs.lemmas.Bool.{cases_eq}
use Rattle.std.proofs.lemmas.Int.{ints, fits_signed_mul}
use Rattle.std.proofs.lemmas.Nat.{le_or_l, le_or_r}
use Rattle.cx_thorn_pde.specs.Near.{IsNear, IsNearStar, IsSmall, AreNearRows}
use Rattle.cx_thorn_pde.specs.Rows.{number_at, RowValues, star_at}

-- the numbers up to a place are near where all that was gathered of them is below 2^41
abbrev pub NearSoFar : List ℤ → (from i spread : ℕ) → Type 0
NearSoFar ns from i spread = (j : ℕ) → from ≤ j → j < i → spread < 2 ^ 41 → IsNear (number_at ns j)

pub one_nearer : (ns : List ℤ) (from i spread one : ℕ) → NearSoFar ns from i spread
    → (one < 2 ^ 41 → IsNear (number_at ns i)) → NearSoFar ns from (i + 1) (bit_or spread one)
one_nearer ns from i spread one before is j low high less = go (cases_eq j i)
  where
    left : spread < 2 ^ 41
    left = omega (arith, le_or_l spread one, less)

    right : one < 2 ^ 41
    right = omega (arith, le_or_r spread one, less)

    go : (j ≡ i) ⊎ (j ≢ i) → IsNear (number_at ns j)
    go (inl same) = subst (λ k. IsNear (number_at ns k)) (sym same) (is right)
    go (inr other) = before j low (omega (arith, high, other)) left

-- a shift to the right rounds down
pub shifted : (n : ℤ) → shr_z n 256 ≡ int_div_euclid n (pos 256)
shifted (pos n) = refl
shifted (negsuc n) = refl

pub above : (n : ℤ) → FitsSigned w64 n → negsuc (2 ^ 62) ≤ℤ int_div_euclid n (pos 256)
above (pos a) f = omega (arith, ints)
above (negsuc a) f =
    let part : a / 256 ≤ 2 ^ 62 = omega (arith, f.sfits) in
    omega (arith, ints, part)

pub below : (n : ℤ) → FitsSigned w64 n → int_div_euclid n (pos 256) ≤ℤ pos (2 ^ 62)
below (pos a) f =
    let part : a / 256 ≤ 2 ^ 62 = omega (arith, f.sfits) in
    omega (arith, ints, part)
below (negsuc a) f = omega (arith, ints)

size_of : (n : ℤ) (m : ℕ) → negsuc m ≤ℤ n → n ≤ℤ pos m → unsigned_abs n ≤ m + 1
size_of (pos a) m low high = omega (arith, ints)
size_of (negsuc a) m low high = omega (arith, ints)

-- a small factor times a bend has 64 bits
pub product_fits : (factor bend : ℤ) → IsSmall factor → negsuc (2 ^ 46) ≤ℤ bend
    → bend ≤ℤ pos (2 ^ 46)
    → FitsSigned w64 (factor *ℤ bend)
product_fits factor bend small low high =
    fits_signed_mul w64 factor bend (2 ^ 16 + 1) (2 ^ 46 + 1)
    (size_of factor (2 ^ 16) small.low small.high) (size_of bend (2 ^ 46) low high) (lit< tt)

pub over_256_fits : (n : ℤ) → FitsSigned w64 n → FitsSigned w64 (int_div_euclid n (pos 256))
over_256_fits (pos a) f = record { sfits = omega (arith, f.sfits) }
over_256_fits (negsuc a) f = record { sfits = omega (arith, f.sfits) }

pub near_star : (r : RowValues) (from to i : ℕ) → AreNearRows r from to → from ≤ i → i < to
    → IsNearStar (star_at r i)
near_star r from to i near low high =
    record {
      here = near.row (i + 1) (omega (arith, low)) (omega (arith, high));
      left = near.row i low (omega (arith, high));
      right = near.row (i + 2) (omega (arith, low)) (omega (arith, high));
      below = near.below (i + 1) (omega (arith, low)) (omega (arith, high));
      above = near.above (i + 1) (omega (arith, low)) (omega (arith, high));
      under = near.under (i + 1) (omega (arith, low)) (omega (arith, high));
      over = near.over (i + 1) (omega (arith, low)) (omega (arith, high));
    }
