-- Lists in which none passes a test.
use Rattle.std.proofs.Common.{◌≡◌, ◌∙◌, ℕ, suc, ◌+◌, ◌<◌, Bool, true, false, List, [], ◌∷◌, length, None, get_or, refl, subst, arith, ltb, ltb-true, ltb-false}
use Rattle.std.specs.List.{position, position_from}
use Rattle.std.proofs.lemmas.Iterator.Adapters.{position_from-zero}

pub one-more : (p : List ℕ → Bool) (xs : List (List ℕ)) (i : ℕ)
    → ((k : ℕ) → k < i → p (get_or xs k []) ≡ false) → p (get_or xs i []) ≡ false → (k : ℕ)
    → k < i + 1 → p (get_or xs k []) ≡ false
one-more p xs i passed next k h = by_test (ltb k i) refl
  where
    by_test : (t : Bool) → ltb k i ≡ t → p (get_or xs k []) ≡ false
    by_test true e = passed k (ltb-true k i e)
    by_test false e = let below = ltb-false k i e in let same : i ≡ k = omega (arith, h, below) in
        subst (λ m. p (get_or xs m []) ≡ false) same next

none-from : (p : List ℕ → Bool) (xs : List (List ℕ)) (from : ℕ)
    → ((k : ℕ) → k < length xs → p (get_or xs k []) ≡ false) → position_from p from xs ≡ None
none-from p [] from h = refl
none-from p (x ∷ xs) from h =
    rw (h 0 (omega arith)) (none-from p xs (from + 1) (λ k l. h (suc k) (omega (arith, l))))

pub none-has : (p : List ℕ → Bool) (xs : List (List ℕ))
    → ((k : ℕ) → k < length xs → p (get_or xs k []) ≡ false) → position p xs ≡ None
none-has p xs h = position_from-zero p xs ∙ none-from p xs 0 h
