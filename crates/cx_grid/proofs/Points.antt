-- What `has_point` tells: that a box holds a point.
use Rattle.std.proofs.Common.{◌≡◌, ℕ, ◌*◌, Bool, true, false, ◌&&◌, arith, refl, sym, ap, ◌∙◌, ℤ, ◌≤ℤ◌, ◌<ℤ◌, int_le, int_lt, [], map}
use Rattle.std.specs.List.{range_with_len}
use Rattle.std.specs.Int.{int_gap}
use Rattle.std.proofs.lemmas.Int.{ints, by_lt_z}
use Rattle.std.proofs.lemmas.Bool.{and_parts, and_from}
use Rattle.cx_grid.specs.declared.boxes.Point.{Point}
use Rattle.cx_grid.specs.declared.boxes.Box3.{Box3}
use Rattle.cx_grid.specs.Boxes.{IsOn, IsIn, is_on, has_point, extent, point_count, index_in, point_in, points_in}
use Rattle.cx_grid.proofs.Places.{gap_up, gap_none}

pub on_is : (low high c : ℤ) → is_on low high c ≡ true → IsOn low high c
on_is low high c e =
    let p = and_parts (int_le low c) (int_lt c high) e in
    record { from = omega (arith, ints, p.0); below = omega (arith, ints, p.1) }

le_from : (a b : ℤ) → a ≤ℤ b → int_le a b ≡ true
le_from a b h = grind (arith, ints)

lt_from : (a b : ℤ) → a <ℤ b → int_lt a b ≡ true
lt_from a b h = grind (arith, ints)

pub on_from : (low high c : ℤ) → IsOn low high c → is_on low high c ≡ true
on_from low high c h = and_from (int_le low c) (int_lt c high) (le_from low c h.from)
    (lt_from c high h.below)

pub in_is : (b : Box3) (p : Point) → has_point b p ≡ true → IsIn b p
in_is b p e =
    let u = and_parts (is_on b.low.x b.high.x p.x && is_on b.low.y b.high.y p.y)
    (is_on b.low.z b.high.z p.z) e in
    let v = and_parts (is_on b.low.x b.high.x p.x) (is_on b.low.y b.high.y p.y) u.0 in
    record {
      x = on_is b.low.x b.high.x p.x v.0;
      y = on_is b.low.y b.high.y p.y v.1;
      z = on_is b.low.z b.high.z p.z u.1;
    }

pub in_from : (b : Box3) (p : Point) → IsIn b p → has_point b p ≡ true
in_from b p h =
    and_from (is_on b.low.x b.high.x p.x && is_on b.low.y b.high.y p.y) (is_on b.low.z b.high.z p.z)
    (and_from (is_on b.low.x b.high.x p.x) (is_on b.low.y b.high.y p.y)
    (on_from b.low.x b.high.x p.x h.x) (on_from b.low.y b.high.y p.y h.y))
    (on_from b.low.z b.high.z p.z h.z)

-- ---- the first point

gap_same : (low : ℤ) → int_gap low low ≡ 0
gap_same low =
    let over : low ≤ℤ low = omega (arith, ints) in
    omega (arith, ints, gap_up low low over)

-- the first point of a box is its low end
pub first_index : (b : Box3) → index_in b b.low ≡ 0
first_index b =
    rw (gap_same b.low.x, gap_same b.low.y, gap_same b.low.z) (grind arith)

not_on : (low high : ℤ) → is_on low high low ≡ false → int_gap low high ≡ 0
not_on low high e =
    by_lt_z low high
    (λ l.
    absurd
    (off (sym (on_from low high low (record { from = omega (arith, ints); below = l })) ∙ e)))
    (λ l. gap_none low high l)
  where
    off : true ≡ false → ⊥
    off t = cc

none_of : (x y z : Bool) (a b c : ℕ) → (x && y && z) ≡ false → (x ≡ false → a ≡ 0)
    → (y ≡ false → b ≡ 0) → (z ≡ false → c ≡ 0)
    → a * b * c ≡ 0
none_of true true true a b c e p q r = absurd cc
none_of true true false a b c e p q r = let n : c ≡ 0 = r refl in rw n (grind arith)
none_of true false z a b c e p q r = let n : b ≡ 0 = q refl in rw n (grind arith)
none_of false y z a b c e p q r = let n : a ≡ 0 = p refl in rw n (grind arith)

-- a box that does not hold its low end has no points
pub no_points : (b : Box3) → has_point b b.low ≡ false → points_in b ≡ []
no_points b e =
    let n : point_count b ≡ 0 =
    none_of (is_on b.low.x b.high.x b.low.x) (is_on b.low.y b.high.y b.low.y)
    (is_on b.low.z b.high.z b.low.z) (extent b 0) (extent b 1) (extent b 2) e
    (not_on b.low.x b.high.x) (not_on b.low.y b.high.y) (not_on b.low.z b.high.z)
    in
    ap (λ k. map (point_in b) (range_with_len 0 k)) n
