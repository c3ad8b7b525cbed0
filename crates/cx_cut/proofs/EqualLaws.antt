-- The widths of an equal cut.
use Rattle.std.proofs.Common.{◌≡◌, ℕ, zero, suc, ◌+◌, ◌*◌, ◌/◌, ◌%◌, ◌<◌, ◌≤◌, true, false, ltb, arith, sym, ap, ◌∙◌, ◌⊎◌, inl, inr, List, [], ◌∷◌, ◌++◌, map, zero-add, add-one}
use Rattle.std.specs.Prelude.{min}
use Rattle.std.proofs.lemmas.Bool.{lt-ltb, le-ltb, cases_lt}
use Rattle.std.proofs.Math.Nat.{div-add-mod, mod-lt}
use Rattle.cx_cut.specs.Axis.{sum_of}
use Rattle.std.specs.List.{range_with_len}
use Rattle.std.proofs.lemmas.List.FromFn.{map-range_with_len_more}
use Rattle.cx_cut.specs.Equal.{even_width, even}

-- one width more
pub one_width : (n p k w : ℕ) (before after : List ℕ)
    → before ≡ map (even_width n p) (range_with_len 0 k) → w ≡ even_width n p k
    → after ≡ before ++ w ∷ [] → after ≡ map (even_width n p) (range_with_len 0 (k + 1))
one_width n p k w before after was is next =
    next
    ∙ ap (λ x. before ++ x ∷ []) is
    ∙ ap (λ xs. xs ++ even_width n p k ∷ []) was
    ∙ sym (map-range_with_len_more (even_width n p) 0 k k (zero-add k))

-- ---- the widths have all points together

sum_more : (xs : List ℕ) (w : ℕ) → sum_of (xs ++ w ∷ []) ≡ sum_of xs + w
sum_more [] w = omega arith
sum_more (x ∷ xs) w = let e = sum_more xs w in omega (arith, e)

-- k equal widths, and one point more for each of the first r
widths_to : (n p k : ℕ) → sum_of (map (even_width n p) (range_with_len 0 k))
    ≡ k * (n / p) + min k (n % p)
widths_to n p zero = omega arith
widths_to n p (suc k) =
    ap (λ m. sum_of (map (even_width n p) (range_with_len 0 m))) (sym (add-one k))
    ∙ ap sum_of (map-range_with_len_more (even_width n p) 0 k k (zero-add k))
    ∙ sum_more (map (even_width n p) (range_with_len 0 k)) (even_width n p k)
    ∙ go (widths_to n p k) (cases_lt k (n % p))
  where
    go : sum_of (map (even_width n p) (range_with_len 0 k)) ≡ k * (n / p) + min k (n % p)
        → (k < n % p) ⊎ (n % p ≤ k)
        → sum_of (map (even_width n p) (range_with_len 0 k)) + even_width n p k
        ≡ suc k * (n / p) + min (suc k) (n % p)
    go e (inl l) =
        let q : ltb k (n % p) ≡ true = lt-ltb k (n % p) l in
        let m : suc k * (n / p) ≡ n / p + k * (n / p) = omega arith in
        rw q (omega (arith, e, m, l))
    go e (inr l) =
        let q : ltb k (n % p) ≡ false = le-ltb k (n % p) l in
        let m : suc k * (n / p) ≡ n / p + k * (n / p) = omega arith in
        rw q (omega (arith, e, m, l))

pub all_points : (n p : ℕ) → 1 ≤ p → sum_of (even n p) ≡ n
all_points n p some =
    let below : n % p < p = mod-lt n (omega (arith, some)) in
    let all = div-add-mod n p in
    widths_to n p p ∙ omega (arith, below, all)
