-- Whether each variable has its items, variable by variable.
use Rattle.std.proofs.Common.{◌≡◌, ℕ, zero, suc, ◌+◌, ◌-◌, ◌<◌, ◌≤◌, Bool, true, false, ◌&&◌, List, [], ◌∷◌, ◌++◌, length, take, drop, get_or, refl, sym, ◌∙◌, ap, subst, arith}
use Rattle.std.specs.Prelude.{◌==◌, nat_le, replicate}
use Rattle.std.specs.List.{list_all}
use Rattle.std.proofs.lemmas.Bool.Decides.{nat_tests}
use Rattle.std.proofs.lemmas.List.{take_all, drop_all, drop-drop, length-drop}
use Rattle.cx_plan.specs.declared.variable.VarInfo.{VarInfo}
use Rattle.cx_keep.specs.Fits.{each_fits, variables_by, begins_with}

shuffle : (t le all e : Bool) → (t && ((le && all) && e)) ≡ ((le && (t && all)) && e)
shuffle true true all e = refl
shuffle true false all e = refl
shuffle false true all e = refl
shuffle false false all e = refl

le_more : (n m : ℕ) → nat_le n m ≡ nat_le (suc n) (suc m)
le_more n m = grind (arith, nat_tests)

none_is_less : (m : ℕ) → nat_le zero m ≡ true
none_is_less m = grind (arith, nat_tests)

some_is_more : (n : ℕ) → nat_le (suc n) zero ≡ false
some_is_more n = grind (arith, nat_tests)

module _ {A : Type 0} (test : VarInfo → A → Bool) where
  -- the items of one variable, and then those of the others
  front : (v : VarInfo) (rest : List VarInfo) (n : ℕ) (xs : List A)
      → each_fits test (replicate n v ++ rest) xs
      ≡ (begins_with (test v) n xs && each_fits test rest (drop n xs))
  front v rest zero xs = rw (none_is_less (length xs)) refl
  front v rest (suc n) [] = rw (some_is_more n) refl
  front v rest (suc n) (x ∷ xs) =
      ap (λ (b : Bool). test v x && b) (front v rest n xs)
      ∙ shuffle (test v x) (nat_le n (length xs)) (list_all (test v) (take n xs))
      (each_fits test rest (drop n xs))
      ∙ ap (λ (b : Bool). (b && (test v x && list_all (test v) (take n xs)))
      && each_fits test rest (drop n xs)) (le_more n (length xs))

  -- the variable at a place, and then those behind it
  each_at : (count : VarInfo → ℕ) (vs : List VarInfo) (k : ℕ) (d : VarInfo) (xs : List A)
      → k < length vs
      → each_fits test (variables_by count (drop k vs)) xs
      ≡ (begins_with (test (get_or vs k d)) (count (get_or vs k d)) xs
      && each_fits test (variables_by count (drop (k + 1) vs))
      (drop (count (get_or vs k d)) xs))
  each_at count [] k d xs lt = absurd (omega arith)
  each_at count (v ∷ vs) zero d xs lt = front v (variables_by count vs) (count v) xs
  each_at count (v ∷ vs) (suc k) d xs lt =
      let e : suc (k + 1) ≡ suc k + 1 = omega arith in
      each_at count vs k d xs (omega arith)
      ∙ ap (λ (i : ℕ). begins_with (test (get_or vs k d)) (count (get_or vs k d)) xs
      && each_fits test (variables_by count (drop i (v ∷ vs)))
      (drop (count (get_or vs k d)) xs)) e

  pub step : (count : VarInfo → ℕ) (vs : List VarInfo) (k : ℕ) (d : VarInfo) (xs : List A) (at : ℕ)
      → k < length vs → begins_with (test (get_or vs k d)) (count (get_or vs k d)) (drop at xs)
      ≡ true
      → each_fits test (variables_by count (drop (k + 1) vs)) (drop (at + count (get_or vs k d)) xs)
      ≡ each_fits test (variables_by count (drop k vs)) (drop at xs)
  step count vs k d xs at lt begins =
      ap (λ (l : List A). each_fits test (variables_by count (drop (k + 1) vs)) l)
      (sym (drop-drop (count (get_or vs k d)) at xs))
      ∙ sym (each_at count vs k d (drop at xs) lt
      ∙ ap (λ (b : Bool). b && each_fits test (variables_by count (drop (k + 1) vs))
      (drop (count (get_or vs k d)) (drop at xs))) begins)

  pub stop : (count : VarInfo → ℕ) (vs : List VarInfo) (k : ℕ) (d : VarInfo) (xs : List A)
      → k < length vs → begins_with (test (get_or vs k d)) (count (get_or vs k d)) xs ≡ false
      → each_fits test (variables_by count (drop k vs)) xs ≡ false
  stop count vs k d xs lt begins =
      each_at count vs k d xs lt
      ∙ ap (λ (b : Bool). b && each_fits test (variables_by count (drop (k + 1) vs))
      (drop (count (get_or vs k d)) xs)) begins

  -- no variable is left
  none_left : (xs : List A) → each_fits test [] xs ≡ (length xs == 0)
  none_left [] = refl
  none_left (x ∷ xs) = grind (arith, nat_tests)

  pub end : (count : VarInfo → ℕ) (vs : List VarInfo) (k : ℕ) (xs : List A) (at : ℕ) → length vs ≤ k
      → at ≤ length xs → each_fits test (variables_by count (drop k vs)) (drop at xs)
      ≡ (at == length xs)
  end count vs k xs at le within =
      let size : length (drop at xs) + at ≡ length xs = omega (arith, length-drop at xs) in
      ap (λ (l : List VarInfo). each_fits test (variables_by count l) (drop at xs))
      (drop_all k vs le)
      ∙ none_left (drop at xs)
      ∙ same (length (drop at xs)) at (length xs) size
    where
      same : (n at all : ℕ) → n + at ≡ all → (n == 0) ≡ (at == all)
      same n at all is = grind (arith, nat_tests)

-- so many items are there
pub begins_within : {A : Type 0} (test : A → Bool) (n at : ℕ) (xs : List A) → at ≤ length xs
    → begins_with test n (drop at xs) ≡ true → at + n ≤ length xs
begins_within test n at xs le begins = by (nat_le n (length (drop at xs))) refl begins
  where
    by : (b : Bool) → nat_le n (length (drop at xs)) ≡ b
        → (b && list_all test (take n (drop at xs))) ≡ true → at + n ≤ length xs
    by true is e = let s : n ≤ length (drop at xs) = grind (arith, nat_tests) in
        omega (arith, length-drop at xs, s)
    by false is e = absurd cc

-- a list begins with items that pass a test where its front is there and does
pub begins_some : {A : Type 0} (test : A → Bool) (n : ℕ) (xs first : List A) → n ≤ length xs
    → first ≡ take n xs → list_all test first ≡ begins_with test n xs
begins_some test n xs first le is =
    let b : nat_le n (length xs) ≡ true = grind (arith, nat_tests) in
    rw (b, is) refl

pub begins_none : {A : Type 0} (test : A → Bool) (n : ℕ) (xs : List A) → length xs < n
    → false ≡ begins_with test n xs
begins_none test n xs lt =
    let b : nat_le n (length xs) ≡ false = grind (arith, nat_tests) in
    rw b refl

-- what a call says of the slice from a place on
pub begins_is : {A : Type 0} (test : A → Bool) (m n at : ℕ) (xs : List A) (r b : Bool) → m ≡ n
    → r ≡ begins_with test m (take (length xs - at) (drop at xs)) → r ≡ b
    → begins_with test n (drop at xs) ≡ b
begins_is {A} test m n at xs r b same says is =
    let all : take (length xs - at) (drop at xs) ≡ drop at xs =
    take_all (length xs - at) (drop at xs) (omega (arith, length-drop at xs)) in
    subst (λ (k : ℕ). begins_with test k (drop at xs) ≡ b) same
    (subst (λ (l : List A). begins_with test m l ≡ b) all (sym says ∙ is))
