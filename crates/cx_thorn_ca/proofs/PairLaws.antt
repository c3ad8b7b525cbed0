-- Two cells at a time, by a table.
use Rattle.std.proofs.Common.{◌≡◌, ℕ, suc, ◌+◌, ◌*◌, ◌/◌, ◌%◌, ◌^◌, ◌<◌, arith, refl, sym, ap, ◌∙◌, subst, ℤ, List, Bool, true, false}
use Rattle.std.specs.Prelude.{if◌then◌else◌, nat_eq, unsigned_abs}
use Rattle.std.proofs.Math.Nat.{div-div-eq-div-mul, pow-succ'}
use Rattle.cx_thorn_ca.specs.Automaton.{alive_of}
use Rattle.cx_thorn_ca.specs.Lanes.{HasBits}
use Rattle.cx_thorn_ca.specs.Rows.{cell_at, AreBy, bit_at, next_at, pair_bit, four_at}

-- ---- four bits of a number

swapped : (a : ℕ) → a * 2 ≡ 2 * a
swapped a = omega arith

halved : (n k : ℕ) → n / 2 ^ k / 2 ≡ n / 2 ^ (k + 1)
halved n k =
    let more : suc k ≡ k + 1 = omega arith in
    div-div-eq-div-mul n (2 ^ k) 2
    ∙ (ap (λ d. n / d) (swapped (2 ^ k) ∙ sym (pow-succ' 2 k)) ∙ ap (λ j. n / 2 ^ j) more)

by_bits : (n : ℕ) → n % 16 ≡ n % 2 + 2 * (n / 2 % 2) + 4 * (n / 2 / 2 % 2) + 8 * (n / 2 / 2 / 2 % 2)
by_bits n = omega arith

four_is : (n j a b c d : ℕ) → n / 2 ^ j % 2 ≡ a → n / 2 ^ (j + 1) % 2 ≡ b → n / 2 ^ (j + 2) % 2 ≡ c
    → n / 2 ^ (j + 3) % 2 ≡ d
    → n / 2 ^ j % 16 ≡ a + 2 * b + 4 * c + 8 * d
four_is n j a b c d p q r s =
    let two : j + 1 + 1 ≡ j + 2 = omega arith in
    let three : j + 2 + 1 ≡ j + 3 = omega arith in
    let second : n / 2 ^ j / 2 ≡ n / 2 ^ (j + 1) = halved n j in
    let third : n / 2 ^ j / 2 / 2 ≡ n / 2 ^ (j + 2) =
    ap (λ m. m / 2) second ∙ (halved n (j + 1) ∙ ap (λ k. n / 2 ^ k) two) in
    let fourth : n / 2 ^ j / 2 / 2 / 2 ≡ n / 2 ^ (j + 3) =
    ap (λ m. m / 2) third ∙ (halved n (j + 2) ∙ ap (λ k. n / 2 ^ k) three) in
    joined (by_bits (n / 2 ^ j)) p (ap (λ m. m % 2) second ∙ q) (ap (λ m. m % 2) third ∙ r)
    (ap (λ m. m % 2) fourth ∙ s)
  where
    joined : {v x y z t : ℕ} → v ≡ x + 2 * y + 4 * z + 8 * t → x ≡ a → y ≡ b → z ≡ c → t ≡ d
        → v ≡ a + 2 * b + 4 * c + 8 * d
    joined e f g h k = omega (arith, e, f, g, h, k)

-- ---- the table

abbrev alive : Bool → ℕ
alive none = if none then 0 else 1

pair_is : (rule : ℤ) (a b c d : Bool)
    → (pair_bit rule (2 * (alive a + 2 * alive b + 4 * alive c + 8 * alive d))
    ≡ bit_at rule (4 * alive a + 2 * alive b + alive c))
    × (pair_bit rule (2 * (alive a + 2 * alive b + 4 * alive c + 8 * alive d) + 1)
    ≡ bit_at rule (4 * alive b + 2 * alive c + alive d))
pair_is rule true true true true = (refl, refl)
pair_is rule true true true false = (refl, refl)
pair_is rule true true false true = (refl, refl)
pair_is rule true true false false = (refl, refl)
pair_is rule true false true true = (refl, refl)
pair_is rule true false true false = (refl, refl)
pair_is rule true false false true = (refl, refl)
pair_is rule true false false false = (refl, refl)
pair_is rule false true true true = (refl, refl)
pair_is rule false true true false = (refl, refl)
pair_is rule false true false true = (refl, refl)
pair_is rule false true false false = (refl, refl)
pair_is rule false false true true = (refl, refl)
pair_is rule false false true false = (refl, refl)
pair_is rule false false false true = (refl, refl)
pair_is rule false false false false = (refl, refl)

few_four : (a b c d : Bool) → alive a + 2 * alive b + 4 * alive c + 8 * alive d < 16
few_four true true true true = omega arith
few_four true true true false = omega arith
few_four true true false true = omega arith
few_four true true false false = omega arith
few_four true false true true = omega arith
few_four true false true false = omega arith
few_four true false false true = omega arith
few_four true false false false = omega arith
few_four false true true true = omega arith
few_four false true true false = omega arith
few_four false true false true = omega arith
few_four false true false false = omega arith
few_four false false true true = omega arith
few_four false false true false = omega arith
few_four false false false true = omega arith
few_four false false false false = omega arith

abbrev none : List ℤ → ℕ → Bool
none cells i = nat_eq (unsigned_abs (cell_at cells i)) 0

both : (rule : ℤ) (table : List ℤ) (four : ℕ) (a b c d : Bool) → AreBy (pair_bit rule) table 32
    → four ≡ alive a + 2 * alive b + 4 * alive c + 8 * alive d
    → (cell_at table (2 * four) ≡ bit_at rule (4 * alive a + 2 * alive b + alive c))
    × (cell_at table (2 * four + 1) ≡ bit_at rule (4 * alive b + 2 * alive c + alive d))
both rule table four a b c d bits is =
    let few : four < 16 = subst (λ n. n < 16) (sym is) (few_four a b c d) in (
      bits (2 * four) (omega (arith, few))
          ∙ (ap (λ n. pair_bit rule (2 * n)) is ∙ (pair_is rule a b c d).0),
      bits (2 * four + 1) (omega (arith, few))
          ∙ (ap (λ n. pair_bit rule (2 * n + 1)) is ∙ (pair_is rule a b c d).1),
    )

pub pair_cells : (rule : ℤ) (table cells : List ℤ) (n i k : ℕ) → AreBy (pair_bit rule) table 32
    → HasBits n 16 (λ j. alive_of (cell_at cells (i + j))) → k < 7
    → (cell_at table (2 * four_at n k) ≡ next_at rule cells (i + 2 * k))
    × (cell_at table (2 * four_at n k + 1) ≡ next_at rule cells (i + 2 * k + 1))
pair_cells rule table cells n i k bits has l =
    let one : i + (2 * k + 1) ≡ i + 2 * k + 1 = omega arith in
    let two : i + (2 * k + 2) ≡ i + 2 * k + 2 = omega arith in
    let three : i + (2 * k + 3) ≡ i + 2 * k + 3 = omega arith in
    let next : i + 2 * k + 2 ≡ i + 2 * k + 1 + 1 = omega arith in
    let after : i + 2 * k + 3 ≡ i + 2 * k + 1 + 2 = omega arith in
    let four = four_is n (2 * k) _ _ _ _ (has (2 * k) (omega (arith, l)))
    (has (2 * k + 1) (omega (arith, l)) ∙ ap (λ j. alive_of (cell_at cells j)) one)
    (has (2 * k + 2) (omega (arith, l)) ∙ ap (λ j. alive_of (cell_at cells j)) two)
    (has (2 * k + 3) (omega (arith, l)) ∙ ap (λ j. alive_of (cell_at cells j)) three) in
    let found = both rule table (four_at n k) (none cells (i + 2 * k)) (none cells (i + 2 * k + 1))
    (none cells (i + 2 * k + 2))
    (none cells (i + 2 * k + 3)) bits four in (
      found.0,
      found.1
          ∙ (ap (λ j. bit_at rule
          (4 * alive_of (cell_at cells (i + 2 * k + 1)) + 2 * alive_of (cell_at cells j)
          + alive_of (cell_at cells (i + 2 * k + 3)))) next
          ∙ ap (λ j. bit_at rule
          (4 * alive_of (cell_at cells (i + 2 * k + 1))
          + 2 * alive_of (cell_at cells (i + 2 * k + 1 + 1))
          + alive_of (cell_at cells j))) after),
    )
