-- Results that are all there, one more at a time.
use Rattle.std.proofs.Common.{◌≡◌, refl, sym, ◌∙◌, ap, ℕ, zero, suc, ◌+◌, ◌<◌, ◌≤◌, List, [], ◌∷◌, ◌++◌, map, length, drop, get_or, Result, Ok, Err, arith}
use Rattle.std.proofs.lemmas.List.{append_assoc, append-nil}
use Rattle.cx_plan.specs.Lists.{with_others, with_next, all_ok}
use Rattle.cx_values.proofs.Along.{left_over}

pub nothing_left : {X : Type 0} (xs : List X) (k : ℕ) → length xs ≤ k → drop k xs ≡ []
nothing_left [] zero h = refl
nothing_left [] (suc k) h = refl
nothing_left (x ∷ xs) zero h = absurd (let no : ⊥ = omega (arith, h) in no)
nothing_left (x ∷ xs) (suc k) h = nothing_left xs k (omega (arith, h))

abbrev prepended : {Y E : Type 0} → List Y → Result (List Y) E → Result (List Y) E
prepended ys (Ok others) = Ok (ys ++ others)
prepended ys (Err e) = Err e

none_before : {Y E : Type 0} (r : Result (List Y) E) → prepended [] r ≡ r
none_before (Ok ys) = refl
none_before (Err e) = refl

one_before : {Y E : Type 0} (ys : List Y) (y : Y) (r : Result (List Y) E)
    → prepended (ys ++ y ∷ []) r ≡ prepended ys (with_others y r)
one_before ys y (Ok others) = ap (λ zs. Ok zs) (append_assoc ys (y ∷ []) others)
one_before ys y (Err e) = refl

module _ {X Y E : Type 0} (f : X → Result Y E) (xs : List X) where
  -- what the first ones gave and what the others give are the results of all
  abbrev pub Given : ℕ → List Y → Type 0
  Given k ys = prepended ys (all_ok (map f (drop k xs))) ≡ all_ok (map f xs)

  pub given_none : Given 0 []
  given_none = none_before (all_ok (map f xs))

  behind : (k : ℕ) (x : X) (r : Result Y E) → k < length xs → x ≡ get_or xs k x → f x ≡ r
      → all_ok (map f (drop k xs)) ≡ with_next r (all_ok (map f (drop (k + 1) xs)))
  behind k x r within at is =
      ap (λ rest. all_ok (map f rest)) (left_over xs k x within at)
      ∙ ap (λ r. with_next r (all_ok (map f (drop (k + 1) xs)))) is

  pub given_one : (k : ℕ) (x : X) (y : Y) (ys ys2 : List Y) → k < length xs → x ≡ get_or xs k x
      → f x ≡ Ok y → Given k ys → ys2 ≡ ys ++ y ∷ [] → Given (k + 1) ys2
  given_one k x y ys ys2 within at is before after =
      ap (λ zs. prepended zs (all_ok (map f (drop (k + 1) xs)))) after
      ∙ one_before ys y (all_ok (map f (drop (k + 1) xs)))
      ∙ ap (λ r. prepended ys r) (sym (behind k x (Ok y) within at is))
      ∙ before

  pub given_fault : (k : ℕ) (x : X) (ys : List Y) (e : E) → k < length xs → x ≡ get_or xs k x
      → f x ≡ Err e → Given k ys → all_ok (map f xs) ≡ Err e
  given_fault k x ys e within at is before =
      sym before ∙ ap (λ r. prepended ys r) (behind k x (Err e) within at is)

  pub given_all : (k : ℕ) (ys : List Y) → length xs ≤ k → Given k ys → all_ok (map f xs) ≡ Ok ys
  given_all k ys past before =
      sym before
      ∙ ap (λ rest. prepended ys (all_ok (map f rest))) (nothing_left xs k past)
      ∙ ap (λ zs. Ok zs) (append-nil ys)
