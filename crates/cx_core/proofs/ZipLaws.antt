-- Lists that show others one by one, and elements of lists.
use Rattle.std.proofs.Common.{◌≡◌, ℕ, zero, suc, ◌<◌, List, [], ◌∷◌, ◌++◌, length, take, drop, set, Some, refl, ap, arith}
use Rattle.std.specs.List.{AllZip}
use Rattle.std.specs.Prelude.{slice_get}

module _ {A B : Type 0} where
  pub zip_append : (R : A → B → Type 0) (xs us : List A) (ys vs : List B) → AllZip R xs ys
      → AllZip R us vs → AllZip R (xs ++ us) (ys ++ vs)
  zip_append R [] us [] vs h g = g
  zip_append R [] us (y ∷ ys) vs h g = absurd h
  zip_append R (x ∷ xs) us [] vs h g = absurd h
  zip_append R (x ∷ xs) us (y ∷ ys) vs h g = (h.0, zip_append R xs us ys vs h.1 g)

  pub zip_take : (R : A → B → Type 0) (n : ℕ) (xs : List A) (ys : List B) → AllZip R xs ys
      → AllZip R (take n xs) (take n ys)
  zip_take R zero [] [] h = tt
  zip_take R zero [] (y ∷ ys) h = tt
  zip_take R zero (x ∷ xs) [] h = tt
  zip_take R zero (x ∷ xs) (y ∷ ys) h = tt
  zip_take R (suc n) [] [] h = tt
  zip_take R (suc n) [] (y ∷ ys) h = absurd h
  zip_take R (suc n) (x ∷ xs) [] h = absurd h
  zip_take R (suc n) (x ∷ xs) (y ∷ ys) h = (h.0, zip_take R n xs ys h.1)

  pub zip_drop : (R : A → B → Type 0) (n : ℕ) (xs : List A) (ys : List B) → AllZip R xs ys
      → AllZip R (drop n xs) (drop n ys)
  zip_drop R zero [] [] h = tt
  zip_drop R zero [] (y ∷ ys) h = absurd h
  zip_drop R zero (x ∷ xs) [] h = absurd h
  zip_drop R zero (x ∷ xs) (y ∷ ys) h = h
  zip_drop R (suc n) [] [] h = tt
  zip_drop R (suc n) [] (y ∷ ys) h = absurd h
  zip_drop R (suc n) (x ∷ xs) [] h = absurd h
  zip_drop R (suc n) (x ∷ xs) (y ∷ ys) h = zip_drop R n xs ys h.1

  pub zip_length : (R : A → B → Type 0) (xs : List A) (ys : List B) → AllZip R xs ys
      → length xs ≡ length ys
  zip_length R [] [] h = refl
  zip_length R [] (y ∷ ys) h = absurd h
  zip_length R (x ∷ xs) [] h = absurd h
  zip_length R (x ∷ xs) (y ∷ ys) h = ap suc (zip_length R xs ys h.1)

  pub zip_into : (R S : A → B → Type 0) → ((x : A) (y : B) → R x y → S x y)
      → (xs : List A) (ys : List B) → AllZip R xs ys → AllZip S xs ys
  zip_into R S f [] [] h = tt
  zip_into R S f [] (y ∷ ys) h = absurd h
  zip_into R S f (x ∷ xs) [] h = absurd h
  zip_into R S f (x ∷ xs) (y ∷ ys) h = (f x y h.0, zip_into R S f xs ys h.1)

pub get_set_same : {A : Type 0} (xs : List A) (k : ℕ) (v : A) → k < length xs
    → slice_get (set xs k v) k ≡ Some v
get_set_same [] k v l = absurd (omega (arith, l))
get_set_same (x ∷ xs) zero v l = refl
get_set_same (x ∷ xs) (suc k) v l = get_set_same xs k v (omega (arith, l))

pub get_set_other : {A : Type 0} (xs : List A) (k j : ℕ) (v : A) → (j ≡ k → ⊥)
    → slice_get (set xs k v) j ≡ slice_get xs j
get_set_other [] k j v n = refl
get_set_other (x ∷ xs) zero zero v n = absurd (n refl)
get_set_other (x ∷ xs) zero (suc j) v n = refl
get_set_other (x ∷ xs) (suc k) zero v n = refl
get_set_other (x ∷ xs) (suc k) (suc j) v n = get_set_other xs k j v (λ e. n (ap suc e))
