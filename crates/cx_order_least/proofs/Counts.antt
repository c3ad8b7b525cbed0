-- How often numbers stand in lists.
use Rattle.std.proofs.Common.{◌≡◌, ◌⊎◌, inl, inr, ℕ, zero, suc, ◌+◌, ◌<◌, Bool, true, false, eqb, List, [], ◌∷◌, ◌++◌, get_or, take, refl, sym, subst, arith, eqb-true, eq-eqb}
use Rattle.std.specs.List.{list_all}
use Rattle.std.proofs.lemmas.Bool.{and_parts, and_from}
use Rattle.cx_order_least.specs.Orders.{count, SameNumbers}

pub nothing : {A : Type 0} → 0 < 0 → A
nothing h = absurd (let no : ⊥ = omega (arith, h) in no)

-- one is the other, or it does not count
pub same_or_other : (x k : ℕ) → (x ≡ k) ⊎ ((xs : List ℕ) → count k (x ∷ xs) ≡ count k xs)
same_or_other x k = by_test (eqb x k) refl
  where
    by_test : (b : Bool) → eqb x k ≡ b → (x ≡ k) ⊎ ((xs : List ℕ) → count k (x ∷ xs) ≡ count k xs)
    by_test true e = inl (eqb-true x k e)
    by_test false e = inr (λ xs. rw e (omega arith))

pub count-first : (x : ℕ) (xs : List ℕ) → count x (x ∷ xs) ≡ 1 + count x xs
count-first x xs = rw (eq-eqb x x refl) refl

pub all-at : (p : ℕ → Bool) (xs : List ℕ) (k : ℕ) → list_all p xs ≡ true → 0 < count k xs
    → p k ≡ true
all-at p [] k all there = nothing there
all-at p (x ∷ xs) k all there = elim (same_or_other x k) [
  | inl e ↦ (let P : ℕ → Type 0 = λ n. p n ≡ true in
      subst P e (and_parts (p x) (list_all p xs) all).0)
  | inr other ↦ all-at p xs k (and_parts (p x) (list_all p xs) all).1
      (let P : ℕ → Type 0 = λ n. 0 < n in subst P (other xs) there)
]

pub count-later : (x k : ℕ) (xs : List ℕ) → 0 < count k xs → 0 < count k (x ∷ xs)
count-later x k xs there = omega (arith, there)

pub all-from : (p : ℕ → Bool) (xs : List ℕ) → ((k : ℕ) → 0 < count k xs → p k ≡ true)
    → list_all p xs ≡ true
all-from p [] h = refl
all-from p (x ∷ xs) h =
    and_from (p x) (list_all p xs)
    (h x (let P : ℕ → Type 0 = λ n. 0 < n in subst P (sym (count-first x xs)) (omega arith)))
    (all-from p xs (λ k there. h k (count-later x k xs there)))

pub all-same : (p : ℕ → Bool) (xs ys : List ℕ) → SameNumbers xs ys → list_all p xs ≡ true
    → list_all p ys ≡ true
all-same p xs ys same all =
    all-from p ys (λ k there.
    all-at p xs k all (let P : ℕ → Type 0 = λ n. 0 < n in subst P (sym (same k)) there))

pub count-parts : (k : ℕ) (front back : List ℕ)
    → count k (front ++ back) ≡ count k front + count k back
count-parts k [] back = omega arith
count-parts k (x ∷ front) back = omega (arith, count-parts k front back)

-- a number in the midst of a list counts as one at its front
pub count-midst : (k : ℕ) (front : List ℕ) (x : ℕ) (back : List ℕ)
    → count k (front ++ x ∷ back) ≡ count k (x ∷ (front ++ back))
count-midst k front x back = omega (arith, count-parts k front (x ∷ back), count-parts k front back)

-- what counts among the first so many stands at one of their places
pub found-below : (xs : List ℕ) (i k : ℕ) → 0 < count k (take i xs)
    → (j : ℕ) × (j < i) × (get_or xs j 0 ≡ k)
found-below xs zero k there = nothing there
found-below [] (suc i) k there = nothing there
found-below (x ∷ xs) (suc i) k there = elim (same_or_other x k) [
  | inl e ↦ (0, omega arith, e)
  | inr other ↦ (let below =
      found-below xs i k (let P : ℕ → Type 0 = λ n. 0 < n in subst P (other (take i xs)) there) in
      (suc below.0, omega (arith, below.1), below.2))
]
