-- Routines that write two or three numbers.
use Rattle.std.proofs.Common.{◌≡◌, ℤ, List, [], ◌∷◌, length, slice_set, arith, refl}

pub only_two : (xs : List ℤ) (v w : ℤ) → length xs ≡ 2
    → slice_set (slice_set xs 0 v) 1 w ≡ v ∷ w ∷ []
only_two [] v w h = absurd (omega arith)
only_two (x ∷ []) v w h = absurd (omega arith)
only_two (x ∷ y ∷ []) v w h = refl
only_two (x ∷ y ∷ z ∷ xs) v w h = absurd (omega arith)

pub only_three : (xs : List ℤ) (u v w : ℤ) → length xs ≡ 3
    → slice_set (slice_set (slice_set xs 0 u) 1 v) 2 w ≡ u ∷ v ∷ w ∷ []
only_three [] u v w h = absurd (omega arith)
only_three (x ∷ []) u v w h = absurd (omega arith)
only_three (x ∷ y ∷ []) u v w h = absurd (omega arith)
only_three (x ∷ y ∷ z ∷ []) u v w h = refl
only_three (x ∷ y ∷ z ∷ a ∷ xs) u v w h = absurd (omega arith)
