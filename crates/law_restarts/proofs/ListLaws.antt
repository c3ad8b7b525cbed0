-- What stands in a list, by its place.
use Rattle.std.proofs.Common.{◌≡◌, refl, sym, ◌∙◌, ap, subst, ℕ, zero, suc, ◌+◌, ◌<◌, Bool, true, false, true≢false, ◌||◌, eqb, List, [], ◌∷◌, ◌++◌, map, length, get_or, position, slice_get, Option, Some, None, option_map, arith}
use Rattle.std.specs.List.{list_any, enumerate_from}
use Rattle.std.proofs.lemmas.Bool.{eqb-true}
use Rattle.std.proofs.lemmas.List.Folds.{list_any_at}
use Rattle.std.proofs.lemmas.List.Quantifiers.{position-Some}
use Rattle.std.proofs.lemmas.Option.{slice_get-get_or}
use Rattle.cx_job_values.proofs.NoneLaws.{no_some}

-- ---- each element

abbrev pub Each : {X : Type 0} → (X → Type 0) → List X → Type 0
Each P [] = Unit {0}
Each P (x ∷ xs) = P x × Each P xs

pub each_at : {X : Type 0} (P : X → Type 0) (xs : List X) (k : ℕ) (x : X) → Each P xs
    → slice_get xs k ≡ Some x → P x
each_at P [] zero x all at = no_some at
each_at P [] (suc k) x all at = no_some at
each_at P (y ∷ ys) zero x all at = (let same : y ≡ x = cc in subst P same all.0)
each_at P (y ∷ ys) (suc k) x all at = each_at P ys k x all.1 at

pub each_both : {X : Type 0} (P : X → Type 0) (xs ys : List X) → Each P xs → Each P ys
    → Each P (xs ++ ys)
each_both P [] ys first second = second
each_both P (x ∷ xs) ys first second = (first.0, each_both P xs ys first.1 second)

pub each_mapped : {X Y : Type 0} (P : X → Type 0) (Q : Y → Type 0) (f : X → Y)
    → ((x : X) → P x → Q (f x)) → (xs : List X) → Each P xs → Each Q (map f xs)
each_mapped P Q f h [] all = tt
each_mapped P Q f h (x ∷ xs) all = (h x all.0, each_mapped P Q f h xs all.1)

pub each_unmapped : {X Y : Type 0} (P : X → Type 0) (Q : Y → Type 0) (f : X → Y)
    → ((x : X) → Q (f x) → P x) → (xs : List X) → Each Q (map f xs) → Each P xs
each_unmapped P Q f h [] all = tt
each_unmapped P Q f h (x ∷ xs) all = (h x all.0, each_unmapped P Q f h xs all.1)

-- ---- numbers and places

pub numbered_at : {X : Type 0} (k : ℕ) (xs : List X) (j : ℕ) (e : ℕ × X)
    → slice_get (enumerate_from k xs) j ≡ Some e → (e.0 ≡ k + j) × (slice_get xs j ≡ Some e.1)
numbered_at k [] zero e at = no_some at
numbered_at k [] (suc j) e at = no_some at
numbered_at k (x ∷ xs) zero e at =
    let same : (k, x) ≡ e = cc in
    let first : e.0 ≡ k = sym (ap (λ q. q.0) same) in
    (omega (arith, first), ap (λ q. Some q.1) same)
numbered_at k (x ∷ xs) (suc j) e at =
    let rest = numbered_at (k + 1) xs j e at in
    let first : e.0 ≡ (k + 1) + j = rest.0 in
    (omega (arith, first), rest.1)

pub positioned : {X : Type 0} (test : X → Bool) (xs : List X) (n : ℕ) → position test xs ≡ Some n
    → (x : X) × (slice_get xs n ≡ Some x) × (test x ≡ true)
positioned test [] n e = no_some e
positioned test (y ∷ ys) n e =
    let at = position-Some test (y ∷ ys) n y e in
    (get_or (y ∷ ys) n y, slice_get-get_or (y ∷ ys) n y at.0, at.1)

pub not_same : (a b : ℕ) → (a ≡ b → ⊥) → eqb a b ≡ false
not_same a b h = by (eqb a b) refl
  where
    by : (t : Bool) → eqb a b ≡ t → eqb a b ≡ false
    by true e = absurd (h (eqb-true a b e))
    by false e = e

-- ---- none passes a test

pub none_of : {X : Type 0} (test : X → Bool) (xs : List X) (k : ℕ) (d : X)
    → list_any test xs ≡ false → k < length xs → test (get_or xs k d) ≡ false
none_of test xs k d none within = by (test (get_or xs k d)) refl
  where
    by : (b : Bool) → test (get_or xs k d) ≡ b → test (get_or xs k d) ≡ false
    by true e = absurd (true≢false (sym (list_any_at test xs k d within e) ∙ none))
    by false e = e

pub first_false : (a b : Bool) → (a || b) ≡ false → a ≡ false
first_false true b e = absurd (true≢false e)
first_false false b e = refl

pub second_false : (a b : Bool) → (a || b) ≡ false → b ≡ false
second_false true b e = absurd (true≢false e)
second_false false b e = e

pub both_false : (a b : Bool) → a ≡ false → b ≡ false → (a || b) ≡ false
both_false true b e h = e
both_false false b e h = h

pub none_told : {X F : Type 0} (told : X → F) (o : Option X) → option_map told o ≡ None → o ≡ None
none_told told None e = refl
none_told told (Some x) e = absurd cc
