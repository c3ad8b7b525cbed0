-- Shapes and cuts, value by value.
use Rattle.std.proofs.Common.{◌≡◌, ◌∙◌, ap, subst, refl, ℕ, Bool, true, List, [], ◌∷◌, ◌++◌, codes, unsigned_abs, if◌then◌else◌, Result, IfOk}
use Rattle.cx_cut.specs.Equal.{even}
use Rattle.cx_values.specs.declared.values.Values.{Values}
use Rattle.cx_job_values.specs.declared.direction.Direction.{Direction}
use Rattle.cx_job_values.specs.Grids.{holds_at, text_at, natural_within, letter, has_direction, points_along, is_periodic_along, widths_or, equal_widths, widths_along}

-- what is told of an answer, by another name
pub told_as : {A E : Type 0} (r : Result A E) (x y : A) → x ≡ y → IfOk r (λ a. a ≡ x)
    → IfOk r (λ a. a ≡ y)
told_as r x y e h = subst (λ z. IfOk r (λ a. a ≡ z)) e h

chosen : {X : Type 0} (b : Bool) (x y : X) → b ≡ true → x ≡ (if b then x else y)
chosen b x y e = rw e refl

pub as_equal_widths : (dims : ℕ) (v : Values) (d : Direction) (n p : ℕ)
    → n ≡ unsigned_abs (points_along dims v d)
    → p ≡ natural_within v 1 512 (codes "driver::parts_" ++ letter d)
    → even n p ≡ equal_widths dims v d
as_equal_widths dims v d n p points parts =
    ap (λ n. even n p) points ∙ ap (λ p. even (unsigned_abs (points_along dims v d)) p) parts

pub as_widths_along : (dims : ℕ) (v : Values) (d : Direction) (text : List ℕ)
    → has_direction dims d ≡ true → text ≡ text_at v (codes "driver::widths_" ++ letter d)
    → widths_or text (equal_widths dims v d) ≡ widths_along dims v d
as_widths_along dims v d text below is =
    ap (λ t. widths_or t (equal_widths dims v d)) is
    ∙ chosen (has_direction dims d)
    (widths_or (text_at v (codes "driver::widths_" ++ letter d)) (equal_widths dims v d))
    (1 ∷ []) below

pub as_periodic_along : (dims : ℕ) (v : Values) (d : Direction) → has_direction dims d ≡ true
    → holds_at v (codes "driver::periodic") ≡ true
    → holds_at v (codes "driver::periodic_" ++ letter d) ≡ is_periodic_along dims v d
as_periodic_along dims v d below all = rw below (rw all refl)
