-- The point after a point of a box, x fastest.
use Rattle.std.proofs.Common.{◌≡◌, ℕ, suc, ◌+◌, ◌*◌, arith, sym, ap, ◌∙◌, ℤ, pos, ◌+ℤ◌, ◌≤ℤ◌, ◌<ℤ◌, [], ◌∷◌, drop, length, get_or, add-one, zero-add}
use Rattle.std.specs.Int.{int_gap}
use Rattle.std.proofs.lemmas.Int.{ints}
use Rattle.std.proofs.lemmas.List.FromFn.{length-map-range_with_len, get_or-map-range_with_len}
use Rattle.std.proofs.Math.Seq.{drop-cons, drop-length}
use Rattle.cx_grid.specs.declared.boxes.Point.{Point}
use Rattle.cx_grid.specs.declared.boxes.Box3.{Box3}
use Rattle.cx_grid.specs.Boxes.{IsOn, IsIn, extent, point_count, index_in, point_in, points_in}
use Rattle.cx_grid.proofs.Places.{gap_up, index_below, point_at_index}

-- what is left from a point on begins with it
pub left_at : (b : Box3) (p : Point) → IsIn b p
    → drop (index_in b p) (points_in b) ≡ p ∷ drop (index_in b p + 1) (points_in b)
left_at b p h =
    let below = index_below b p h in
    let count : length (points_in b) ≡ point_count b =
    length-map-range_with_len (point_in b) 0 (point_count b) in
    let first : get_or (points_in b) (index_in b p) p ≡ p =
    get_or-map-range_with_len (point_in b) 0 (point_count b) (index_in b p) (index_in b p) p below
    (zero-add (index_in b p)) ∙ point_at_index b p h
    in
    drop-cons (points_in b) (index_in b p) p (omega (arith, below, count))
    ∙ ap (λ q. q ∷ drop (suc (index_in b p)) (points_in b)) first
    ∙ ap (λ i. p ∷ drop i (points_in b)) (sym (add-one (index_in b p)))

-- and goes on with the next one
pub left_next : (b : Box3) (p q : Point) → IsIn b p → index_in b q ≡ index_in b p + 1
    → drop (index_in b p) (points_in b) ≡ p ∷ drop (index_in b q) (points_in b)
left_next b p q h e = left_at b p h ∙ ap (λ i. p ∷ drop i (points_in b)) (sym e)

-- or ends there
pub left_last : (b : Box3) (p : Point) → IsIn b p → index_in b p + 1 ≡ point_count b
    → drop (index_in b p) (points_in b) ≡ p ∷ []
left_last b p h e =
    let count : length (points_in b) ≡ point_count b =
    length-map-range_with_len (point_in b) 0 (point_count b) in
    left_at b p h ∙ ap (λ i. p ∷ drop i (points_in b)) (e ∙ sym count)
    ∙ ap (λ xs. p ∷ xs) (drop-length (points_in b))

gap_next : (low c : ℤ) → low ≤ℤ c → int_gap low (c +ℤ pos 1) ≡ int_gap low c + 1
gap_next low c h =
    let over : low ≤ℤ (c +ℤ pos 1) = omega (arith, ints) in
    omega (arith, ints, gap_up low c h, gap_up low (c +ℤ pos 1) over)

gap_end : (low c high : ℤ) → low ≤ℤ c → high ≡ (c +ℤ pos 1) → int_gap low high ≡ int_gap low c + 1
gap_end low c high h e = rw e (gap_next low c h)

gap_same : (low : ℤ) → int_gap low low ≡ 0
gap_same low =
    let over : low ≤ℤ low = omega (arith, ints) in
    omega (arith, ints, gap_up low low over)

pub next_x : (b : Box3) (p : Point) → IsIn b p
    → index_in b (record { x = p.x +ℤ pos 1; y = p.y; z = p.z }) ≡ index_in b p + 1
next_x b p h = rw (gap_next b.low.x p.x h.x.from) (omega arith)

carry : (a b n m : ℕ) → n ≡ a + 1 → 0 + n * (b + 1 + m) ≡ a + n * (b + m) + 1
carry a b n m e = rw e (grind arith)

pub next_y : (b : Box3) (p : Point) → IsIn b p → b.high.x ≡ (p.x +ℤ pos 1)
    → index_in b (record { x = b.low.x; y = p.y +ℤ pos 1; z = p.z }) ≡ index_in b p + 1
next_y b p h e =
    rw (gap_same b.low.x, gap_next b.low.y p.y h.y.from)
    (carry (int_gap b.low.x p.x) (int_gap b.low.y p.y) (extent b 0)
    (extent b 1 * int_gap b.low.z p.z) (gap_end b.low.x p.x b.high.x h.x.from e))

carry_two : (a b c n m : ℕ) → n ≡ a + 1 → m ≡ b + 1
    → 0 + n * (0 + m * (c + 1)) ≡ a + n * (b + m * c) + 1
carry_two a b c n m e f = rw (e, f) (grind arith)

pub next_z : (b : Box3) (p : Point) → IsIn b p → b.high.x ≡ (p.x +ℤ pos 1)
    → b.high.y ≡ (p.y +ℤ pos 1)
    → index_in b (record { x = b.low.x; y = b.low.y; z = p.z +ℤ pos 1 }) ≡ index_in b p + 1
next_z b p h e f =
    rw (gap_same b.low.x, gap_same b.low.y, gap_next b.low.z p.z h.z.from)
    (carry_two (int_gap b.low.x p.x) (int_gap b.low.y p.y) (int_gap b.low.z p.z) (extent b 0)
    (extent b 1)
    (gap_end b.low.x p.x b.high.x h.x.from e) (gap_end b.low.y p.y b.high.y h.y.from f))

carry_all : (a b c n m k : ℕ) → n ≡ a + 1 → m ≡ b + 1 → k ≡ c + 1
    → a + n * (b + m * c) + 1 ≡ n * m * k
carry_all a b c n m k e f g = rw (e, f, g) (grind arith)

pub next_none : (b : Box3) (p : Point) → IsIn b p → b.high.x ≡ (p.x +ℤ pos 1)
    → b.high.y ≡ (p.y +ℤ pos 1) → b.high.z ≡ (p.z +ℤ pos 1)
    → index_in b p + 1 ≡ point_count b
next_none b p h e f g =
    carry_all (int_gap b.low.x p.x) (int_gap b.low.y p.y) (int_gap b.low.z p.z) (extent b 0)
    (extent b 1) (extent b 2)
    (gap_end b.low.x p.x b.high.x h.x.from e) (gap_end b.low.y p.y b.high.y h.y.from f)
    (gap_end b.low.z p.z b.high.z h.z.from g)

on_low : (low c high : ℤ) → IsOn low high c → IsOn low high low
on_low low c high h = record {
  from = omega (arith, ints);
  below = omega (arith, ints, h.from, h.below);
}

pub in_next_z : (b : Box3) (p : Point) (z : ℤ) → IsIn b p → z ≡ (p.z +ℤ pos 1) → z <ℤ b.high.z
    → IsIn b (record { x = b.low.x; y = b.low.y; z = z })
in_next_z b p z h e below =
    record {
      x = on_low b.low.x p.x b.high.x h.x;
      y = on_low b.low.y p.y b.high.y h.y;
      z = record { from = omega (arith, ints, h.z.from, e); below = below };
    }
