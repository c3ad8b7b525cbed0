-- A list whose first elements are those of another one: what each step of filling leaves.
use Rattle.std.proofs.Common.{◌≡◌, ℕ, zero, suc, ◌<◌, ◌≤◌, arith, refl, ap, ◌∙◌, List, [], ◌∷◌, length}
use Rattle.std.specs.Prelude.{slice_index_or, slice_set}

-- the first so many elements are those of the whole
abbrev pub filled : {A : Type 0} → ℕ → List A → List A → List A
filled zero whole old = old
filled (suc n) [] old = old
filled (suc n) (x ∷ whole) [] = []
filled (suc n) (x ∷ whole) (y ∷ old) = x ∷ filled n whole old

pub filled_length : {A : Type 0} (n : ℕ) (whole old : List A)
    → length (filled n whole old) ≡ length old
filled_length zero whole old = refl
filled_length (suc n) [] old = refl
filled_length (suc n) (x ∷ whole) [] = refl
filled_length (suc n) (x ∷ whole) (y ∷ old) = ap suc (filled_length n whole old)

-- the others are as they were
pub filled_later : {A : Type 0} (n i : ℕ) (whole old : List A) (d : A) → n ≤ i
    → slice_index_or (filled n whole old) i d ≡ slice_index_or old i d
filled_later zero i whole old d h = refl
filled_later (suc n) i [] old d h = refl
filled_later (suc n) i (x ∷ whole) [] d h = refl
filled_later (suc n) zero (x ∷ whole) (y ∷ old) d h = absurd (omega (arith, h))
filled_later (suc n) (suc i) (x ∷ whole) (y ∷ old) d h =
    filled_later n i whole old d (omega (arith, h))

pub filled_step : {A : Type 0} (n : ℕ) (whole old : List A) (d : A) → n < length whole
    → n < length old
    → slice_set (filled n whole old) n (slice_index_or whole n d) ≡ filled (suc n) whole old
filled_step zero [] old d h l = absurd (omega (arith, h))
filled_step zero (x ∷ whole) [] d h l = absurd (omega (arith, l))
filled_step zero (x ∷ whole) (y ∷ old) d h l = refl
filled_step (suc n) [] old d h l = absurd (omega (arith, h))
filled_step (suc n) (x ∷ whole) [] d h l = absurd (omega (arith, l))
filled_step (suc n) (x ∷ whole) (y ∷ old) d h l =
    ap (λ zs. x ∷ zs) (filled_step n whole old d (omega (arith, h)) (omega (arith, l)))

pub filled_all : {A : Type 0} (n : ℕ) (whole old : List A) → length whole ≡ length old
    → length old ≤ n → filled n whole old ≡ whole
filled_all zero [] [] e h = refl
filled_all zero [] (y ∷ old) e h = absurd (omega (arith, h))
filled_all zero (x ∷ whole) [] e h = absurd (omega (arith, e))
filled_all zero (x ∷ whole) (y ∷ old) e h = absurd (omega (arith, h))
filled_all (suc n) [] [] e h = refl
filled_all (suc n) [] (y ∷ old) e h = absurd (omega (arith, e))
filled_all (suc n) (x ∷ whole) [] e h = absurd (omega (arith, e))
filled_all (suc n) (x ∷ whole) (y ∷ old) e h =
    ap (λ zs. x ∷ zs) (filled_all n whole old (omega (arith, e)) (omega (arith, h)))

-- a write to what is set already changes nothing
pub set_none : {A : Type 0} (xs : List A) (n : ℕ) (d : A)
    → slice_set xs n (slice_index_or xs n d) ≡ xs
set_none [] n d = refl
set_none (x ∷ xs) zero d = refl
set_none (x ∷ xs) (suc n) d = ap (λ zs. x ∷ zs) (set_none xs n d)

-- the second of two writes to one place stays
pub set_again : {A : Type 0} (xs : List A) (n : ℕ) (a b : A)
    → slice_set (slice_set xs n a) n b ≡ slice_set xs n b
set_again [] n a b = refl
set_again (x ∷ xs) zero a b = refl
set_again (x ∷ xs) (suc n) a b = ap (λ zs. x ∷ zs) (set_again xs n a b)

-- two lists are one where their elements are
pub same_list : {A : Type 0} (xs ys : List A) (d : A) → length xs ≡ length ys
    → ((i : ℕ) → i < length xs → slice_index_or xs i d ≡ slice_index_or ys i d) → xs ≡ ys
same_list [] [] d e h = refl
same_list [] (y ∷ ys) d e h = absurd (omega (arith, e))
same_list (x ∷ xs) [] d e h = absurd (omega (arith, e))
same_list (x ∷ xs) (y ∷ ys) d e h =
    ap (λ z. z ∷ xs) (h 0 (omega arith))
    ∙ ap (λ zs. y ∷ zs) (same_list xs ys d (omega (arith, e))
    (λ i l. h (suc i) (omega (arith, l))))
