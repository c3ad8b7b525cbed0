-- A grid has boundary points exactly where a direction that is not periodic has ghost points.
use Rattle.std.proofs.Common.{◌≡◌, ◌<◌, Bool, true, false, not, ◌&&◌, ◌||◌, refl, sym, ap, ◌∙◌, arith, ℤ, pos, ◌-ℤ◌, int_le, get_or}
use Rattle.std.specs.Prelude.{int_lt}
use Rattle.std.proofs.lemmas.Int.{ints}
use Rattle.std.proofs.lemmas.List.Folds.{list_any_at, list_any_none}
use Rattle.std.proofs.lemmas.List.FromFn.{get_or-map-range_with_len, length-map-range_with_len}
use Rattle.cx_grid.specs.declared.boxes.Point.{Point}
use Rattle.cx_grid.specs.declared.shapes.Shape.{Shape}
use Rattle.cx_grid.specs.Boxes.{IsOn, IsIn, point_count, point_in, points_in, index_in}
use Rattle.cx_grid.specs.Grid.{IsAxis, IsShape, whole, is_periodic, in_face, is_boundary}
use Rattle.cx_grid.proofs.Places.{index_below, point_at_index, point_inside}
use Rattle.cx_plan.specs.Regions.{has_boundary}
use Rattle.cx_region_flags.specs.Faces.{has_faces, has_faced_direction}
use Rattle.cx_region_flags.proofs.RangeLaws.{all_of_map_range}

abbrev is_faced : Bool → ℤ → ℤ → ℤ → Bool
is_faced periodic n ghosts c = not periodic && (int_lt c ghosts || int_le (n -ℤ ghosts) c)

face_at_start : (periodic : Bool) (n ghosts : ℤ) → (not periodic && int_le (pos 1) ghosts) ≡ true
    → is_faced periodic n ghosts (pos 0) ≡ true
face_at_start true n ghosts h = absurd (cc)
face_at_start false n ghosts h = grind (arith, ints)

no_face : (periodic : Bool) (n ghosts c : ℤ) → IsAxis n ghosts → IsOn (pos 0) n c
    → (not periodic && int_le (pos 1) ghosts) ≡ false → is_faced periodic n ghosts c ≡ false
no_face true n ghosts c axis on h = refl
no_face false n ghosts c axis on h = grind (arith, ints)

abbrev start : Point
start = record { x = pos 0; y = pos 0; z = pos 0 }

starts : (s : Shape) → IsShape s → IsIn (whole s) start
starts s is =
    record {
      x = record { from = omega (arith, ints); below = omega (arith, ints, is.x.some) };
      y = record { from = omega (arith, ints); below = omega (arith, ints, is.y.some) };
      z = record { from = omega (arith, ints); below = omega (arith, ints, is.z.some) };
    }

here : (s : Shape) → IsShape s → is_boundary s start ≡ true → has_boundary s ≡ true
here s is h =
    let b = whole s in
    let n = point_count b in
    let inside = starts s is in
    let i = index_in b start in
    let below : i < n = index_below b start inside in
    let at : get_or (points_in b) i start ≡ start =
    get_or-map-range_with_len (point_in b) 0 n i i start below (omega arith)
    ∙ point_at_index b start inside in
    list_any_at (is_boundary s) (points_in b) i start
    (omega (arith, length-map-range_with_len (point_in b) 0 n)) (ap (is_boundary s) at ∙ h)

or_true : (a b : Bool) → a ≡ true → (a || b) ≡ true
or_true a b h = ap (λ t. t || b) h

or_right : (a b : Bool) → b ≡ true → (a || b) ≡ true
or_right true b h = refl
or_right false b h = h

pub with_faces : (s : Shape) → IsShape s → has_faced_direction s ≡ true → has_boundary s ≡ true
with_faces s is h = here s is
    (which (has_faces s 0) (has_faces s 1) (has_faces s 2) refl refl refl h)
  where
    which : (x y z : Bool) → has_faces s 0 ≡ x → has_faces s 1 ≡ y → has_faces s 2 ≡ z
        → ((x || y) || z) ≡ true → is_boundary s start ≡ true
    which true y z at_x at_y at_z h =
        or_true _ _ (face_at_start (is_periodic s 0) s.n.x s.ghost_.x at_x)
    which false true z at_x at_y at_z h =
        or_right _ _ (or_true _ _ (face_at_start (is_periodic s 1) s.n.y s.ghost_.y at_y))
    which false false true at_x at_y at_z h =
        or_right _ _ (or_right _ _ (face_at_start (is_periodic s 2) s.n.z s.ghost_.z at_z))
    which false false false at_x at_y at_z h = absurd (cc)

both_false : (a b : Bool) → (a || b) ≡ false → (a ≡ false) × (b ≡ false)
both_false true b h = absurd (cc)
both_false false b h = (refl, h)

or_false : (a b : Bool) → a ≡ false → b ≡ false → (a || b) ≡ false
or_false a b h k = ap (λ t. t || b) h ∙ k

pub without_faces : (s : Shape) → IsShape s → has_faced_direction s ≡ false → has_boundary s ≡ false
without_faces s is h =
    let b = whole s in
    let n = point_count b in
    let front = both_false (has_faces s 0 || has_faces s 1) (has_faces s 2) h in
    let first = both_false (has_faces s 0) (has_faces s 1) front.0 in
    list_any_none (is_boundary s) (points_in b)
    (all_of_map_range (λ p. is_boundary s p ≡ false) (point_in b) n
    (λ k below.
    let on = point_inside b k below in
    let p = point_in b k in
    or_false (in_face s 0 p.x) (in_face s 1 p.y || in_face s 2 p.z)
    (no_face (is_periodic s 0) s.n.x s.ghost_.x p.x is.x on.x first.0)
    (or_false (in_face s 1 p.y) (in_face s 2 p.z)
    (no_face (is_periodic s 1) s.n.y s.ghost_.y p.y is.y on.y first.1)
    (no_face (is_periodic s 2) s.n.z s.ghost_.z p.z is.z on.z front.1))))

pub boundary_told : (s : Shape) (b : Bool) → IsShape s → b ≡ has_faced_direction s
    → b ≡ has_boundary s
boundary_told s true is h = sym (with_faces s is (sym h))
boundary_told s false is h = sym (without_faces s is (sym h))
