-- A routine that writes one number.
use Rattle.std.proofs.Common.{◌≡◌, ℤ, List, [], ◌∷◌, length, slice_set, arith, refl, Some, ap, ◌∙◌, sym}

pub only_one : (xs : List ℤ) (v : ℤ) → length xs ≡ 1 → slice_set xs 0 v ≡ v ∷ []
only_one [] v h = absurd (omega arith)
only_one (x ∷ []) v h = refl
only_one (x ∷ y ∷ xs) v h = absurd (omega arith)

-- the cells hold just the number that was set, which is the rule's
pub single : (xs new : List ℤ) (v w : ℤ) → length xs ≡ 1 → new ≡ slice_set xs 0 v → v ≡ w
    → Some (w ∷ []) ≡ Some new
single xs new v w one set same =
    ap (λ (n : List ℤ). Some n) (sym (set ∙ only_one xs v one ∙ ap (λ (n : ℤ). n ∷ []) same))
