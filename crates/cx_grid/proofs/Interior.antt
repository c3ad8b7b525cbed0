-- A coordinate that is moved into the interior lies in no face.
use Rattle.std.proofs.Common.{◌≡◌, Bool, true, false, arith, refl, ℤ, pos, ◌+ℤ◌, ◌-ℤ◌, ◌*ℤ◌, ◌≤ℤ◌, ◌⊎◌, inl, inr, IsTrue, not, ◌&&◌, ◌||◌, int_lt, int_le, if◌then◌else◌}
use Rattle.std.specs.Int.{int_min, int_max}
use Rattle.std.proofs.lemmas.Int.{ints, clamps}
use Rattle.cx_grid.specs.declared.boxes.Point.{Point}
use Rattle.cx_grid.specs.declared.shapes.Shape.{Shape}
use Rattle.cx_grid.specs.Boxes.{IsOn, IsIn}
use Rattle.cx_grid.specs.Grid.{is_periodic, HasInterior, is_boundary, source, whole, IsShape, IsNearGrid}

pub in_no_face : (periodic : Bool) (n g c : ℤ) → pos 0 ≤ℤ g
    → IsTrue periodic ⊎ ((pos 2 *ℤ g +ℤ pos 1) ≤ℤ n)
    → let s : ℤ = if periodic then c else int_max g (int_min c (n -ℤ g -ℤ pos 1)) in
    (not periodic && (int_lt s g || int_le (n -ℤ g) s)) ≡ false
in_no_face true n g c some wide = refl
in_no_face false n g c some (inl w) = absurd cc
in_no_face false n g c some (inr w) = grind (arith, ints, clamps)

pub on_axis : (periodic : Bool) (n g c : ℤ) → pos 0 ≤ℤ g
    → IsTrue periodic ⊎ ((pos 2 *ℤ g +ℤ pos 1) ≤ℤ n)
    → IsTrue periodic ⊎ IsOn (pos 0) n
    (if periodic then c else int_max g (int_min c (n -ℤ g -ℤ pos 1)))
on_axis true n g c some wide = inl refl
on_axis false n g c some (inl w) = absurd cc
on_axis false n g c some (inr w) =
    inr (record { from = omega (arith, ints, clamps); below = omega (arith, ints, clamps) })

stays_on : (periodic : Bool) (n g c : ℤ) → pos 0 ≤ℤ g
    → IsTrue periodic ⊎ ((pos 2 *ℤ g +ℤ pos 1) ≤ℤ n) → IsOn (pos 0) n c
    → IsOn (pos 0) n (if periodic then c else int_max g (int_min c (n -ℤ g -ℤ pos 1)))
stays_on true n g c some wide on = on
stays_on false n g c some (inl w) on = absurd cc
stays_on false n g c some (inr w) on =
    record { from = omega (arith, ints, clamps); below = omega (arith, ints, clamps) }

no_face : (x y z : Bool) → x ≡ false → y ≡ false → z ≡ false → (x || (y || z)) ≡ false
no_face x y z e f g = rw (e, f, g) refl

pub interior : (s : Shape) (p : Point) → IsShape s → HasInterior s
    → is_boundary s (source s p) ≡ false
interior s p h wide =
    no_face _ _ _
    (in_no_face (is_periodic s 0) s.n.x s.ghost_.x p.x h.x.least_ghosts wide.x)
    (in_no_face (is_periodic s 1) s.n.y s.ghost_.y p.y h.y.least_ghosts wide.y)
    (in_no_face (is_periodic s 2) s.n.z s.ghost_.z p.z h.z.least_ghosts wide.z)

pub near : (s : Shape) (p : Point) → IsShape s → HasInterior s → IsNearGrid s (source s p)
near s p h wide =
    record {
      x = on_axis (is_periodic s 0) s.n.x s.ghost_.x p.x h.x.least_ghosts wide.x;
      y = on_axis (is_periodic s 1) s.n.y s.ghost_.y p.y h.y.least_ghosts wide.y;
      z = on_axis (is_periodic s 2) s.n.z s.ghost_.z p.z h.z.least_ghosts wide.z;
    }

pub inside : (s : Shape) (p : Point) → IsShape s → HasInterior s → IsIn (whole s) p
    → IsIn (whole s) (source s p)
inside s p h wide on =
    record {
      x = stays_on (is_periodic s 0) s.n.x s.ghost_.x p.x h.x.least_ghosts wide.x on.x;
      y = stays_on (is_periodic s 1) s.n.y s.ghost_.y p.y h.y.least_ghosts wide.y on.y;
      z = stays_on (is_periodic s 2) s.n.z s.ghost_.z p.z h.z.least_ghosts wide.z on.z;
    }
