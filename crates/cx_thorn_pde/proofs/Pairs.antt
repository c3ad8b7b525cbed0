-- A routine that writes two numbers.
use Rattle.std.proofs.Common.{◌≡◌, ℤ, List, [], ◌∷◌, length, slice_set, arith, refl}

pub only_two : (xs : List ℤ) (v w : ℤ) → length xs ≡ 2
    → slice_set (slice_set xs 0 v) 1 w ≡ v ∷ w ∷ []
only_two [] v w h = absurd (omega arith)
only_two (x ∷ []) v w h = absurd (omega arith)
only_two (x ∷ y ∷ []) v w h = refl
only_two (x ∷ y ∷ z ∷ xs) v w h = absurd (omega arith)
