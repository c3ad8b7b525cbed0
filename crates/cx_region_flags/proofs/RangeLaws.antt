-- Tests of numbers from one on.
use Rattle.std.proofs.Common.{◌≡◌, ℕ, zero, suc, ◌+◌, ◌<◌, ◌≤◌, Bool, true, false, ◌&&◌, cond, refl, sym, subst, ap, ◌⊎◌, inl, inr, ◌∙◌, arith, map, get_or, Some, None}
use Rattle.std.proofs.lemmas.List.Folds.{list_all_at}
use Rattle.std.proofs.lemmas.List.FromFn.{get_or-range_with_len, length-range_with_len, get_or-map-range_with_len, length-map-range_with_len}
use Rattle.std.proofs.lemmas.Bool.{cases_lt}
use Rattle.std.specs.List.{list_all, find, range_with_len, All}

pub all_of_range : (p : ℕ → Bool) (n a : ℕ) → ((k : ℕ) → a ≤ k → k < a + n → p k ≡ true)
    → list_all p (range_with_len a n) ≡ true
all_of_range p zero a h = refl
all_of_range p (suc n) a h =
    ap (λ t. t && list_all p (range_with_len (a + 1) n)) (h a (omega arith) (omega arith))
    ∙ all_of_range p n (a + 1) (λ k low high. h k (omega arith) (omega arith))

pub not_all_of_range : (p : ℕ → Bool) (n k : ℕ) → k < n → p k ≡ false
    → list_all p (range_with_len 0 n) ≡ false
not_all_of_range p n k below h =
    let at : get_or (range_with_len 0 n) k 0 ≡ k =
    get_or-range_with_len 0 n k 0 below ∙ omega arith in
    list_all_at p (range_with_len 0 n) k 0 (omega (arith, length-range_with_len 0 n)) (ap p at ∙ h)

pub all_of_map_range : {X : Type 0} (P : X → Type 0) (f : ℕ → X) (n : ℕ)
    → ((k : ℕ) → k < n → P (f k)) → All P (map f (range_with_len 0 n))
all_of_map_range P f n h = λ k d below.
    let in_n : k < n = omega (arith, length-map-range_with_len f 0 n) in
    subst P (sym (get_or-map-range_with_len f 0 n k k d in_n (omega arith))) (h k in_n)

-- the first that passes
pub none_of_range : (p : ℕ → Bool) (n a : ℕ) → ((k : ℕ) → a ≤ k → k < a + n → p k ≡ false)
    → find p (range_with_len a n) ≡ None
none_of_range p zero a h = refl
none_of_range p (suc n) a h =
    ap (λ t. cond t (Some a) (find p (range_with_len (a + 1) n))) (h a (omega arith) (omega arith))
    ∙ none_of_range p n (a + 1) (λ k low high. h k (omega arith) (omega arith))

pub first_of_range : (p : ℕ → Bool) (n a k : ℕ) → k < a + n → a ≤ k → p k ≡ true
    → ((j : ℕ) → a ≤ j → j < k → p j ≡ false) → find p (range_with_len a n) ≡ Some k
first_of_range p zero a k high low here before = absurd (omega arith)
first_of_range p (suc n) a k high low here before =
    let later : (a < k) → find p (range_with_len (a + 1) n) ≡ Some k =
    λ less. first_of_range p n (a + 1) k (omega arith) (omega arith) here
    (λ j l h. before j (omega arith) h) in
    cases (cases_lt a k) later
  where
    cases : (a < k) ⊎ (k ≤ a) → (a < k → find p (range_with_len (a + 1) n) ≡ Some k)
        → cond (p a) (Some a) (find p (range_with_len (a + 1) n)) ≡ Some k
    cases (inl less) later =
        ap (λ t. cond t (Some a) (find p (range_with_len (a + 1) n))) (before a (omega arith) less)
        ∙ later less
    cases (inr more) later =
        let same : k ≡ a = omega arith in
        ap (λ t. cond t (Some a) (find p (range_with_len (a + 1) n))) (ap p (sym same) ∙ here)
        ∙ ap (λ x. Some x) (sym same)
