-- What a window sees lies in the grid.
use Rattle.std.proofs.Common.{◌≡◌, ℕ, zero, suc, ◌+◌, ◌<◌, ◌≤◌, Bool, true, false, not, ◌&&◌, ◌||◌, arith, refl, sym, subst, inl, inr, ℤ, pos, neg_ℤ, ◌+ℤ◌, ◌-ℤ◌, ◌≤ℤ◌, ◌<ℤ◌, nat_lt, int_lt, int_le, if◌then◌else◌}
use Rattle.std.specs.List.{list_all, range_with_len}
use Rattle.std.specs.Int.{int_rem_euclid}
use Rattle.std.proofs.lemmas.Int.{ints}
use Rattle.std.proofs.lemmas.Bool.{or_parts, and_parts, cases_eq, ltb-true}
use Rattle.cx_grid.specs.declared.boxes.Point.{Point}
use Rattle.cx_grid.specs.declared.shapes.Shape.{Shape}
use Rattle.cx_grid.specs.Boxes.{along, shifted, IsOn, IsIn}
use Rattle.cx_grid.specs.Grid.{IsAxis, IsShape, whole, is_periodic, is_boundary, wrap}
use Rattle.cx_grid.specs.Windows.{reach_box}
use Rattle.cx_plan.specs.Regions.{within_ghosts}
use Rattle.cx_grid.proofs.Places.{same_point}
use Rattle.cx_grid.proofs.WrapLaws.{rem_on}

-- ---- a reach of 0

still : (there : Bool) (c : ℤ)
    → IsOn (if there then neg_ℤ (pos 0) else pos 0) (if there then pos (0 + 1) else pos 1) c
    → c ≡ pos 0
still true c on = let from = on.from in let below = on.below in omega (arith, ints, from, below)
still false c on = let from = on.from in let below = on.below in omega (arith, ints, from, below)

pub shifted-still : (dims : ℕ) (p o : Point) → IsIn (reach_box dims 0) o → shifted p o ≡ p
shifted-still dims p o on =
    let x : o.x ≡ pos 0 = still (nat_lt 0 dims) o.x on.x in
    let y : o.y ≡ pos 0 = still (nat_lt 1 dims) o.y on.y in
    let z : o.z ≡ pos 0 = still (nat_lt 2 dims) o.z on.z in
    same_point (omega (arith, ints, x)) (omega (arith, ints, y)) (omega (arith, ints, z))

-- ---- a reach within the ghost widths

inner : (n g c : ℤ) → (int_lt c g || int_le (n -ℤ g) c) ≡ false → (g ≤ℤ c) × (c <ℤ (n -ℤ g))
inner n g c e = let parts = or_parts (int_lt c g) (int_le (n -ℤ g) c) e in
    (grind (arith, ints, parts), grind (arith, ints, parts))

near_axis : (there periodic : Bool) (n g c o : ℤ) (reach : ℕ) → IsAxis n g → IsOn (pos 0) n c
    → (not periodic && (int_lt c g || int_le (n -ℤ g) c)) ≡ false
    → (there ≡ true → pos reach ≤ℤ g)
    → IsOn (if there then neg_ℤ (pos reach) else pos 0) (if there then pos (reach + 1) else pos 1) o
    → IsOn (pos 0) n (if periodic then int_rem_euclid (c +ℤ o) n else (c +ℤ o))
near_axis there true n g c o reach axis on out fits off = rem_on (c +ℤ o) n axis.some
near_axis true false n g c o zero axis on out fits off =
    let in_ = inner n g c out in
    let few = fits refl in
    let from = off.from in
    let below = off.below in
    let one = on.from in
    let two = on.below in
    record {
      from = omega (arith, ints, one, two, from, below);
      below = omega (arith, ints, one, two, from, below);
    }
near_axis true false n g c o (suc reach) axis on out fits off =
    let in_ = inner n g c out in
    let few = fits refl in
    let from = off.from in
    let below = off.below in
    record {
      from = omega (arith, ints, in_, few, from, below);
      below = omega (arith, ints, in_, few, from, below);
    }
near_axis false false n g c o reach axis on out fits off =
    let from = off.from in
    let below = off.below in
    let one = on.from in
    let two = on.below in
    record {
      from = omega (arith, ints, one, two, from, below);
      below = omega (arith, ints, one, two, from, below);
    }

fits_along : (s : Shape) (reach d count a : ℕ)
    → list_all (λ d. int_le (pos reach) (along s.ghost_ d)) (range_with_len a count) ≡ true → a ≤ d
    → d < a + count → pos reach ≤ℤ along s.ghost_ d
fits_along s reach d zero a all from below = absurd (omega (arith, from, below))
fits_along s reach d (suc count) a all from below =
    let parts = and_parts (int_le (pos reach) (along s.ghost_ a))
    (list_all (λ d. int_le (pos reach) (along s.ghost_ d)) (range_with_len (a + 1) count))
    all in
    elim (cases_eq d a) [
      | inl same ↦ subst (λ e. pos reach ≤ℤ along s.ghost_ e) (sym same)
          (by (along s.ghost_ a) parts.0)
      | inr other ↦ fits_along s reach d count (a + 1) parts.1 (omega (arith, from, other))
          (omega (arith, below))
    ]
  where
    by : (g : ℤ) → int_le (pos reach) g ≡ true → pos reach ≤ℤ g
    by g e = grind (arith, ints, e)

pub near : (s : Shape) (p o : Point) (reach : ℕ) → IsShape s → IsIn (whole s) p
    → is_boundary s p ≡ false → within_ghosts s reach ≡ true
    → IsIn (reach_box s.dims reach) o → IsIn (whole s) (wrap s (shifted p o))
near s p o reach shape h interior fits on =
    let ghosts : (d : ℕ) → nat_lt d s.dims ≡ true → pos reach ≤ℤ along s.ghost_ d =
    λ d there. fits_along s reach d s.dims 0 fits (omega arith)
    (let below = ltb-true d s.dims there in omega (arith, below))
    in
    let x = or_parts _ _ interior in
    let y = or_parts _ _ x.1 in
    record {
      x = near_axis (nat_lt 0 s.dims) (is_periodic s 0)
          s.n.x s.ghost_.x p.x o.x reach shape.x h.x x.0 (ghosts 0) on.x;
      y = near_axis (nat_lt 1 s.dims) (is_periodic s 1)
          s.n.y s.ghost_.y p.y o.y reach shape.y h.y y.0 (ghosts 1) on.y;
      z = near_axis (nat_lt 2 s.dims) (is_periodic s 2)
          s.n.z s.ghost_.z p.z o.z reach shape.z h.z y.1 (ghosts 2) on.z;
    }
