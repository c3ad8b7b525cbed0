-- Vectors of sixteen numbers.
use Rattle.std.proofs.Common.{◌≡◌, ◌≢◌, ℕ, zero, suc, ◌+◌, ◌*◌, ◌-◌, ◌%◌, ◌<◌, ◌≤◌, ◌^◌, Bool, true, false, arith, refl, sym, ap, ◌∙◌, subst, cond, eqb, ◌⊎◌, inl, inr, ℤ, pos, negsuc, List, [], ◌∷◌, ◌++◌, length, map, replicate, SFits, w8, w64, of_z, ◌/◌}
use Rattle.std.specs.Prelude.{nat_eq, unsigned_abs}
use Rattle.std.proofs.lemmas.Bool.{ne_eqb, cases_eq}
use Rattle.std.proofs.lemmas.Simd.{length-zip2, get_or-zip2, bitmask_splat, bit_mask_l}
use Rattle.std.proofs.lemmas.List.{get_or-map}
use Rattle.std.specs.Simd.Lanes.{zip2, top, mask_l}
use Rattle.cx_thorn_ca.specs.Automaton.{alive_of}
use Rattle.cx_thorn_ca.specs.Rows.{cell_at, living_at, count_at}
use Rattle.cx_thorn_ca.specs.Lanes.{lane, HasLanes, HasBits}
use Rattle.cx_thorn_ca.proofs.RowLaws.{alive_few}

pub by_fifteen : (P : ℕ → Type 0) → P 0 → P 1 → P 2 → P 3 → P 4 → P 5 → P 6 → P 7 → P 8 → P 9 → P 10
    → P 11 → P 12 → P 13 → P 14
    → (k : ℕ) → k < 15 → P k
by_fifteen P a b c d e f g h i j k l m n o zero q = a
by_fifteen P a b c d e f g h i j k l m n o (suc zero) q = b
by_fifteen P a b c d e f g h i j k l m n o (suc (suc zero)) q = c
by_fifteen P a b c d e f g h i j k l m n o (suc (suc (suc zero))) q = d
by_fifteen P a b c d e f g h i j k l m n o (suc (suc (suc (suc zero)))) q = e
by_fifteen P a b c d e f g h i j k l m n o (suc (suc (suc (suc (suc zero))))) q = f
by_fifteen P a b c d e f g h i j k l m n o (suc (suc (suc (suc (suc (suc zero)))))) q = g
by_fifteen P a b c d e f g h i j k l m n o (suc (suc (suc (suc (suc (suc (suc zero))))))) q = h
by_fifteen P a b c d e f g h i j k l m n o (suc (suc (suc (suc (suc (suc (suc (suc zero)))))))) q =
    i
by_fifteen P a b c d e f g h i j k l m n o
    (suc (suc (suc (suc (suc (suc (suc (suc (suc zero))))))))) q = j
by_fifteen P a b c d e f g h i j k l m n o
    (suc (suc (suc (suc (suc (suc (suc (suc (suc (suc zero)))))))))) q = k
by_fifteen P a b c d e f g h i j k l m n o
    (suc (suc (suc (suc (suc (suc (suc (suc (suc (suc (suc zero))))))))))) q = l
by_fifteen P a b c d e f g h i j k l m n o
    (suc (suc (suc (suc (suc (suc (suc (suc (suc (suc (suc (suc zero)))))))))))) q = m
by_fifteen P a b c d e f g h i j k l m n o
    (suc (suc (suc (suc (suc (suc (suc (suc (suc (suc (suc (suc (suc zero))))))))))))) q = n
by_fifteen P a b c d e f g h i j k l m n o
    (suc (suc (suc (suc (suc (suc (suc (suc (suc (suc (suc (suc (suc (suc zero)))))))))))))) q = o
by_fifteen P a b c d e f g h i j k l m n o
    (suc (suc (suc (suc (suc (suc (suc (suc (suc (suc (suc (suc (suc (suc (suc r))))))))))))))) q =
    absurd (omega (arith, q))

pub one_more_lane : (P : ℕ → Type 0) → P 15 → ((k : ℕ) → k < 15 → P k) → (k : ℕ) → k < 16 → P k
one_more_lane P last all k l = go (cases_eq k 15)
  where
    go : (k ≡ 15) ⊎ (k ≢ 15) → P k
    go (inl same) = subst P (sym same) last
    go (inr other) = all k (omega (arith, l, other))

-- a word is 0 where its number is
word_none : (z : ℤ) → SFits w64 z → eqb (of_z w64 z) 0 ≡ nat_eq (unsigned_abs z) 0
word_none (pos n) h = refl
word_none (negsuc n) h =
    let low : n < 9223372036854775808 = h.sfits in
    ne_eqb (2 ^ 64 - suc n) 0 (λ e. omega (arith, e, low))
    ∙ sym (ne_eqb (suc n) 0 (λ e. omega (arith, e)))

chosen : (b : Bool) → cond {A = ℕ} (top 63 (cond b 18446744073709551615 0)) 0 1 ≡ cond b 0 1
chosen true = refl
chosen false = refl

abbrev pub marked : ℤ → ℕ
marked z = cond {A = ℕ} (top 63 (cond (eqb (of_z w64 z) 0) 18446744073709551615 0)) 0 1

pub marked_is : (z : ℤ) → SFits w64 z → marked z ≡ alive_of z
marked_is z h = chosen (eqb (of_z w64 z) 0) ∙ ap (λ b. cond b 0 1) (word_none z h)

pub sums : (f : ℕ → ℕ → ℕ) (a b : List ℕ) → ((x y : ℕ) → f x y ≡ (x + y) % 256) → length a ≡ 16
    → length b ≡ 16
    → HasLanes (zip2 f a b) 16 (λ k. (lane a k + lane b k) % 256)
sums f a b is p q =
    record {
      long = length-zip2 f a b (p ∙ sym q) ∙ p;
      each = λ k l. get_or-zip2 f a b k 0 0 0 (omega (arith, l, p)) (omega (arith, l, q)) ∙ is _ _;
    }

pub in_front : (v w : List ℕ) (k : ℕ) → k < length v → lane (v ++ w) k ≡ lane v k
in_front [] w k l = absurd (omega (arith, l))
in_front (x ∷ v) w zero l = refl
in_front (x ∷ v) w (suc k) l = in_front v w k (omega (arith, l))

pub products : (f : ℕ → ℕ → ℕ) (a b : List ℕ) → ((x y : ℕ) → f x y ≡ x * y % 256) → length a ≡ 16
    → length b ≡ 16
    → ((k : ℕ) → k < 16 → lane b k ≡ 16) → HasLanes (zip2 f a b) 16 (λ k. lane a k * 16 % 256)
products f a b is p q same =
    record {
      long = length-zip2 f a b (p ∙ sym q) ∙ p;
      each = λ k l. get_or-zip2 f a b k 0 0 0 (omega (arith, l, p)) (omega (arith, l, q))
          ∙ (is _ _ ∙ ap (λ n. lane a k * n % 256) (same k l));
    }

column_sum : (b a m : ℕ) → b ≤ 1 → a ≤ 1 → m ≤ 1 → ((b + a) % 256 + m) % 256 ≡ b + a + m
column_sum b a m p q r = omega (arith, p, q, r)

middle_sum : (b a m : ℕ) → b ≤ 1 → a ≤ 1 → m ≤ 1
    → ((b + a) % 256 + m * 16 % 256) % 256 ≡ b + a + 16 * m
middle_sum b a m p q r = omega (arith, p, q, r)

three_sums : (l m r : ℕ) → l ≤ 3 → m ≤ 18 → r ≤ 3 → ((l + m) % 256 + r) % 256 ≡ l + m + r
three_sums l m r p q s = omega (arith, p, q, s)

regrouped : (b a m c d n e f o : ℕ)
    → (b + a + m) + (c + d + 16 * n) + (e + f + o) ≡ m + o + (b + c + e) + (a + d + f) + 16 * n
regrouped b a m c d n e f o = omega arith

few_three : (b a m : ℕ) → b ≤ 1 → a ≤ 1 → m ≤ 1 → b + a + m ≤ 3
few_three b a m p q r = omega (arith, p, q, r)

few_middle : (b a m : ℕ) → b ≤ 1 → a ≤ 1 → m ≤ 1 → b + a + 16 * m ≤ 18
few_middle b a m p q r = omega (arith, p, q, r)

pub counted : (below cells above : List ℤ) (i : ℕ)
    (here low high around column fold middles middle next right first last : List ℕ)
    → HasLanes here 16 (λ k. alive_of (cell_at cells (i + k)))
    → HasLanes low 16 (λ k. alive_of (cell_at below (i + k)))
    → HasLanes high 16 (λ k. alive_of (cell_at above (i + k)))
    → HasLanes around 16 (λ k. (lane low k + lane high k) % 256)
    → HasLanes column 16 (λ k. (lane around k + lane here k) % 256)
    → HasLanes fold 16 (λ k. lane here k * 16 % 256)
    → HasLanes middles 16 (λ k. (lane around k + lane fold k) % 256)
    → HasLanes middle 15 (λ k. lane middles (k + 1))
    → HasLanes next 15 (λ k. lane column (k + 1))
    → HasLanes right 15 (λ k. lane next (k + 1))
    → HasLanes first 16 (λ k. (lane column k + lane middle k) % 256)
    → HasLanes last 16 (λ k. (lane first k + lane right k) % 256)
    → HasLanes last 14 (λ k. count_at below cells above (i + k))
counted below cells above i here low high around column fold middles middle next right first last m
    b a ab col sf mid mids nx rt fs ls =
    record { long = ls.long; each = each }
  where
    one : List ℤ → ℕ → ℕ
    one row k = alive_of (cell_at row (i + k))

    few : (row : List ℤ) (k : ℕ) → one row k ≤ 1
    few row k = alive_few (cell_at row (i + k))

    column_is : (k : ℕ) → k < 16 → lane column k ≡ one below k + one above k + one cells k
    column_is k l =
        col.each k l
        ∙ (rw (ab.each k l, m.each k l, b.each k l, a.each k l)
        (column_sum (one below k) (one above k) (one cells k) (few below k) (few above k)
        (few cells k)))

    middles_is : (k : ℕ) → k < 16 → lane middles k ≡ one below k + one above k + 16 * one cells k
    middles_is k l =
        mid.each k l
        ∙ (rw (ab.each k l, sf.each k l, m.each k l, b.each k l, a.each k l)
        (middle_sum (one below k) (one above k) (one cells k) (few below k) (few above k)
        (few cells k)))

    middle_is : (k : ℕ) → k < 14
        → lane middle k ≡ one below (k + 1) + one above (k + 1) + 16 * one cells (k + 1)
    middle_is k l = mids.each k (omega (arith, l)) ∙ middles_is (k + 1) (omega (arith, l))

    right_is : (k : ℕ) → k < 14
        → lane right k ≡ one below (k + 1 + 1) + one above (k + 1 + 1) + one cells (k + 1 + 1)
    right_is k l = rt.each k (omega (arith, l))
        ∙ (nx.each (k + 1) (omega (arith, l)) ∙ column_is (k + 1 + 1) (omega (arith, l)))

    total : (k : ℕ) → k < 14
        → lane last k ≡ (one below k + one above k + one cells k)
        + (one below (k + 1) + one above (k + 1) + 16 * one cells (k + 1))
        + (one below (k + 1 + 1) + one above (k + 1 + 1) + one cells (k + 1 + 1))
    total k l =
        ls.each k (omega (arith, l))
        ∙ (rw (
          fs.each k (omega (arith, l)),
          column_is k (omega (arith, l)),
          middle_is k l,
          right_is k l,
        )
        (three_sums (one below k + one above k + one cells k)
        (one below (k + 1) + one above (k + 1) + 16 * one cells (k + 1))
        (one below (k + 1 + 1) + one above (k + 1 + 1) + one cells (k + 1 + 1))
        (few_three (one below k) (one above k) (one cells k) (few below k) (few above k)
        (few cells k))
        (few_middle (one below (k + 1)) (one above (k + 1)) (one cells (k + 1)) (few below (k + 1))
        (few above (k + 1)) (few cells (k + 1)))
        (few_three (one below (k + 1 + 1)) (one above (k + 1 + 1)) (one cells (k + 1 + 1))
        (few below (k + 1 + 1)) (few above (k + 1 + 1)) (few cells (k + 1 + 1)))))

    each : (k : ℕ) → k < 14 → lane last k ≡ count_at below cells above (i + k)
    each k l =
        let step : i + (k + 1) ≡ i + k + 1 = omega arith in
        let two : i + (k + 1 + 1) ≡ i + k + 2 = omega arith in
        let whole = total k l in
        let sum = rw (step, two) at whole in
        sum ∙ regrouped (alive_of (cell_at below (i + k))) (alive_of (cell_at above (i + k)))
        (alive_of (cell_at cells (i + k)))
        (alive_of (cell_at below (i + k + 1))) (alive_of (cell_at above (i + k + 1)))
        (alive_of (cell_at cells (i + k + 1)))
        (alive_of (cell_at below (i + k + 2))) (alive_of (cell_at above (i + k + 2)))
        (alive_of (cell_at cells (i + k + 2)))

few_count : (a b c d e f g h m : ℕ) → a ≤ 1 → b ≤ 1 → c ≤ 1 → d ≤ 1 → e ≤ 1 → f ≤ 1 → g ≤ 1 → h ≤ 1
    → m ≤ 1
    → a + b + (c + d + e) + (f + g + h) + 16 * m < 25
few_count a b c d e f g h m p q r s t u v w x = omega (arith, p, q, r, s, t, u, v, w, x)

pub count_few : (below cells above : List ℤ) (i : ℕ) → count_at below cells above i < 25
count_few below cells above i =
    few_count _ _ _ _ _ _ _ _ _ (alive_few (cell_at cells i)) (alive_few (cell_at cells (i + 2)))
    (alive_few (cell_at below i))
    (alive_few (cell_at below (i + 1))) (alive_few (cell_at below (i + 2)))
    (alive_few (cell_at above i)) (alive_few (cell_at above (i + 1)))
    (alive_few (cell_at above (i + 2))) (alive_few (cell_at cells (i + 1)))

pub lane_few : (v : List ℕ) (below cells above : List ℤ) (i k n : ℕ)
    → lane v k ≡ count_at below cells above (i + k) → 25 ≤ n → lane v k < n
lane_few v below cells above i k n is h =
    let few : count_at below cells above (i + k) < 25 = count_few below cells above (i + k) in
    subst (λ m. m < n) (sym is) (omega (arith, few, h))

few_living : (a b c d e f g h : ℕ) → a ≤ 1 → b ≤ 1 → c ≤ 1 → d ≤ 1 → e ≤ 1 → f ≤ 1 → g ≤ 1 → h ≤ 1
    → a + b + (c + d + e) + (f + g + h) ≤ 8
few_living a b c d e f g h p q r s t u v w = omega (arith, p, q, r, s, t, u, v, w)

pub living_few : (below cells above : List ℤ) (i : ℕ) → living_at below cells above i ≤ 8
living_few below cells above i =
    few_living _ _ _ _ _ _ _ _ (alive_few (cell_at cells i)) (alive_few (cell_at cells (i + 2)))
    (alive_few (cell_at below i))
    (alive_few (cell_at below (i + 1))) (alive_few (cell_at below (i + 2)))
    (alive_few (cell_at above i)) (alive_few (cell_at above (i + 1)))
    (alive_few (cell_at above (i + 2)))

few_bit : (n : ℕ) → n ≤ 1 → cond {A = ℕ} (eqb n 1) 1 0 ≡ n
few_bit zero h = refl
few_bit (suc zero) h = refl
few_bit (suc (suc n)) h = absurd (omega (arith, h))

-- sixteen lanes of 0 and 1 as the bits of a number
has_bits : (v : List ℕ) (f : ℕ → ℕ) → HasLanes v 16 f → ((k : ℕ) → k < 16 → f k ≤ 1)
    → HasBits
    (mask_l
    (map (top 7) (zip2 (λ a b. cond (eqb a b) (2 ^ 8 - 1) 0) v (replicate {A = ℕ} 16 1))) % 2
    ^ 64) 16 f
has_bits v f h few k l =
    ap (λ n. n / 2 ^ k % 2) (bitmask_splat w8 eqb v 16 1 h.long (omega arith))
    ∙ (bit_mask_l (map (λ x. eqb x 1) v) k
    ∙ (ap (λ b. cond {A = ℕ} b 1 0)
    (get_or-map (λ x. eqb x 1) v k 0 false (omega (arith, l, h.long))
    ∙ ap (λ n. eqb n 1) (h.each k l))
    ∙ few_bit (f k) (few k l)))

pub has_living_bits : (v : List ℕ) (cells : List ℤ) (i : ℕ)
    → HasLanes v 16 (λ k. alive_of (cell_at cells (i + k)))
    → HasBits
    (mask_l
    (map (top 7) (zip2 (λ a b. cond (eqb a b) (2 ^ 8 - 1) 0) v (replicate {A = ℕ} 16 1))) % 2
    ^ 64) 16
    (λ k. alive_of (cell_at cells (i + k)))
has_living_bits v cells i h =
    has_bits v (λ k. alive_of (cell_at cells (i + k))) h (λ k l. alive_few (cell_at cells (i + k)))
