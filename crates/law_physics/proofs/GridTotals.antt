-- Sums over the whole grid, direction by direction.
use Rattle.std.proofs.Common.{◌≡◌, ℕ, zero, suc, ◌+◌, ◌*◌, ◌<◌, arith, refl, sym, ap, ◌∙◌, Bool, true, false, ℤ, pos, negsuc, ◌+ℤ◌, ◌-ℤ◌, ◌≤ℤ◌, ◌<ℤ◌, List, [], ◌∷◌, map, length, get_or}
use Rattle.std.specs.Prelude.{if◌then◌else◌}
use Rattle.std.specs.List.{range_with_len}
use Rattle.std.specs.Int.{int_rem_euclid, int_gap}
use Rattle.std.proofs.lemmas.Int.{ints}
use Rattle.cx_grid.specs.declared.boxes.Point.{Point}
use Rattle.cx_grid.specs.declared.shapes.Shape.{Shape}
use Rattle.cx_grid.specs.Boxes.{IsOn, IsIn, extent, point_count, index_in, point_in, numbers_in}
use Rattle.cx_grid.specs.Grid.{IsShape, whole, is_periodic, wrap, at}
use Rattle.cx_grid.proofs.Places.{same_point, split, gap_at}
use Rattle.cx_grid.proofs.Remainders.{own_remainder}
use Rattle.cx_plan.specs.declared.item.ItemKind.TheVariants.{Sum}
use Rattle.cx_model.specs.Turns.{reduced}
use Rattle.law_physics.proofs.Totals.{total, total_same, total_plus, total_less, total_none, total_rows, reduced_listed, reduced_mapped}

-- how many points the grid has in a direction
abbrev pub width : Shape → ℕ → ℕ
width s d = extent (whole s) d

abbrev pub point_of : (x y z : ℕ) → Point
point_of x y z = record { x = pos x; y = pos y; z = pos z }

-- places of the grid
pub record AreOn (s : Shape) (a b c : ℕ) : Type 0 where
  pub x : a < width s 0
  pub y : b < width s 1
  pub z : c < width s 2

-- the sum of a function over a row, over a sheet, and over all points
abbrev pub row_total : Shape → (Point → ℤ) → (z y : ℕ) → ℤ
row_total s f z y = total 0 (width s 0) (λ x. f (point_of x y z))

abbrev pub sheet_total : Shape → (Point → ℤ) → (z : ℕ) → ℤ
sheet_total s f z = total 0 (width s 1) (λ y. row_total s f z y)

abbrev pub grid_total : Shape → (Point → ℤ) → ℤ
grid_total s f = total 0 (width s 2) (λ z. sheet_total s f z)

-- ---- sums of functions

pub grid_same : (s : Shape) (f g : Point → ℤ)
    → ((x y z : ℕ) → AreOn s x y z → f (point_of x y z) ≡ g (point_of x y z))
    → grid_total s f ≡ grid_total s g
grid_same s f g same =
    total_same 0 (width s 2) (λ z. sheet_total s f z) (λ z. sheet_total s g z) (λ z low c.
    total_same 0 (width s 1) (λ y. row_total s f z y) (λ y. row_total s g z y) (λ y lower b.
    total_same 0 (width s 0) (λ x. f (point_of x y z)) (λ x. g (point_of x y z)) (λ x lowest a.
    same x y z
    (record { x = omega (arith, a); y = omega (arith, b); z = omega (arith, c) }))))

pub grid_plus : (s : Shape) (f g : Point → ℤ)
    → grid_total s (λ p. f p +ℤ g p) ≡ grid_total s f +ℤ grid_total s g
grid_plus s f g =
    total_same 0 (width s 2) (λ z. sheet_total s (λ p. f p +ℤ g p) z)
    (λ z. sheet_total s f z +ℤ sheet_total s g z) (λ z low c.
    total_same 0 (width s 1) (λ y. row_total s (λ p. f p +ℤ g p) z y)
    (λ y. row_total s f z y +ℤ row_total s g z y)
    (λ y lower b. total_plus 0 (width s 0) (λ x. f (point_of x y z)) (λ x. g (point_of x y z)))
    ∙ total_plus 0 (width s 1) (λ y. row_total s f z y) (λ y. row_total s g z y))
    ∙ total_plus 0 (width s 2) (λ z. sheet_total s f z) (λ z. sheet_total s g z)

pub grid_less : (s : Shape) (f g : Point → ℤ)
    → grid_total s (λ p. f p -ℤ g p) ≡ grid_total s f -ℤ grid_total s g
grid_less s f g =
    total_same 0 (width s 2) (λ z. sheet_total s (λ p. f p -ℤ g p) z)
    (λ z. sheet_total s f z -ℤ sheet_total s g z) (λ z low c.
    total_same 0 (width s 1) (λ y. row_total s (λ p. f p -ℤ g p) z y)
    (λ y. row_total s f z y -ℤ row_total s g z y)
    (λ y lower b. total_less 0 (width s 0) (λ x. f (point_of x y z)) (λ x. g (point_of x y z)))
    ∙ total_less 0 (width s 1) (λ y. row_total s f z y) (λ y. row_total s g z y))
    ∙ total_less 0 (width s 2) (λ z. sheet_total s f z) (λ z. sheet_total s g z)

pub grid_none : (s : Shape) → grid_total s (λ _. pos 0) ≡ pos 0
grid_none s =
    total_same 0 (width s 2) (λ z. sheet_total s (λ _. pos 0) z) (λ z. pos 0) (λ z low c.
    total_same 0 (width s 1) (λ y. row_total s (λ _. pos 0) z y) (λ y. pos 0)
    (λ y lower b. total_none 0 (width s 0))
    ∙ total_none 0 (width s 1))
    ∙ total_none 0 (width s 2)

-- ---- sums of lists of numbers

-- a sum over all places, x fastest
pub grid_placed : (s : Shape) (h : ℕ → ℤ) (f : Point → ℤ)
    → ((x y z : ℕ) → AreOn s x y z
    → h (x + width s 0 * (y + width s 1 * z)) ≡ f (point_of x y z))
    → total 0 (point_count (whole s)) h ≡ grid_total s f
grid_placed s h f same =
    let all : width s 0 * width s 1 * width s 2 ≡ width s 0 * (width s 1 * width s 2) =
    grind arith in
    ap (λ n. total 0 n h) all ∙ total_rows (width s 0) (width s 1 * width s 2) h
    ∙ total_rows (width s 1) (width s 2)
    (λ j. total 0 (width s 0) (λ i. h (i + width s 0 * j)))
    ∙ total_same 0 (width s 2)
    (λ z. total 0 (width s 1)
    (λ y. total 0 (width s 0) (λ x. h (x + width s 0 * (y + width s 1 * z)))))
    (λ z. sheet_total s f z) (λ z low c.
    total_same 0 (width s 1)
    (λ y. total 0 (width s 0) (λ x. h (x + width s 0 * (y + width s 1 * z))))
    (λ y. row_total s f z y) (λ y lower b.
    total_same 0 (width s 0) (λ x. h (x + width s 0 * (y + width s 1 * z)))
    (λ x. f (point_of x y z)) (λ x lowest a.
    same x y z
    (record { x = omega (arith, a); y = omega (arith, b); z = omega (arith, c) }))))

up : (n : ℕ) → pos 0 +ℤ pos n ≡ pos n
up n = omega (arith, ints)

at_place : (s : Shape) (x y z : ℕ) → AreOn s x y z
    → point_in (whole s) (x + width s 0 * (y + width s 1 * z)) ≡ point_of x y z
at_place s x y z on =
    let p = split x (width s 0) y (width s 1) z on.x on.y in
    same_point (ap (λ n. pos 0 +ℤ pos n) p.first ∙ up x)
    (ap (λ n. pos 0 +ℤ pos n) p.second ∙ up y) (ap (λ n. pos 0 +ℤ pos n) p.last ∙ up z)

pub sum_of_numbers : (s : Shape) (f : Point → ℤ)
    → reduced Sum (numbers_in (whole s) f) ≡ grid_total s f
sum_of_numbers s f =
    reduced_mapped (point_count (whole s)) (λ i. f (point_in (whole s) i))
    ∙ grid_placed s (λ i. f (point_in (whole s) i)) f (λ x y z on. ap f (at_place s x y z on))

-- ---- points of the grid

gap_from : (n : ℕ) → int_gap (pos 0) (pos n) ≡ n
gap_from n = ap (int_gap (pos 0)) (sym (up n)) ∙ gap_at (pos 0) n

below_width : (n : ℤ) (c : ℕ) → pos 1 ≤ℤ n → c < int_gap (pos 0) n → pos c <ℤ n
below_width (pos n) c some h = let e = gap_from n in omega (arith, ints, e, h)
below_width (negsuc n) c some h = absurd (omega (arith, ints))

from_none : (c : ℕ) → pos 0 ≤ℤ pos c
from_none c = omega (arith, ints)

pub on_grid : (s : Shape) (x y z : ℕ) → IsShape s → AreOn s x y z → IsIn (whole s) (point_of x y z)
on_grid s x y z shape on =
    record {
      x = record { from = from_none x; below = below_width s.n.x x shape.x.some on.x };
      y = record { from = from_none y; below = below_width s.n.y y shape.y.some on.y };
      z = record { from = from_none z; below = below_width s.n.z z shape.z.some on.z };
    }

own_along : (periodic : Bool) (c n : ℤ) → IsOn (pos 0) n c
    → (if periodic then int_rem_euclid c n else c) ≡ c
own_along true c n on = own_remainder c n on.from on.below
own_along false c n on = refl

pub wrap_own : (s : Shape) (p : Point) → IsIn (whole s) p → wrap s p ≡ p
wrap_own s p h = same_point (own_along (is_periodic s 0) p.x s.n.x h.x)
    (own_along (is_periodic s 1) p.y s.n.y h.y) (own_along (is_periodic s 2) p.z s.n.z h.z)

index_of : (s : Shape) (x y z : ℕ)
    → index_in (whole s) (point_of x y z) ≡ x + width s 0 * (y + width s 1 * z)
index_of s x y z =
    ap (λ n. n + width s 0 * (int_gap (pos 0) (pos y) + width s 1 * int_gap (pos 0) (pos z)))
    (gap_from x)
    ∙ ap (λ n. x + width s 0 * (n + width s 1 * int_gap (pos 0) (pos z))) (gap_from y)
    ∙ ap (λ n. x + width s 0 * (y + width s 1 * n)) (gap_from z)

at_own : (s : Shape) (ns : List ℤ) (x y z : ℕ) → IsShape s → AreOn s x y z
    → get_or ns (x + width s 0 * (y + width s 1 * z)) (pos 0) ≡ at s ns (point_of x y z)
at_own s ns x y z shape on =
    ap (λ i. get_or ns i (pos 0)) (sym (index_of s x y z))
    ∙ ap (λ q. get_or ns (index_in (whole s) q) (pos 0))
    (sym (wrap_own s (point_of x y z) (on_grid s x y z shape on)))

-- the sum of a level is that of its numbers at all points
pub sum_of_level : (s : Shape) (ns : List ℤ) → IsShape s → length ns ≡ point_count (whole s)
    → reduced Sum ns ≡ grid_total s (at s ns)
sum_of_level s ns shape count =
    reduced_listed ns ∙ ap (λ n. total 0 n (λ i. get_or ns i (pos 0))) count
    ∙ grid_placed s (λ i. get_or ns i (pos 0)) (at s ns)
    (λ x y z on. at_own s ns x y z shape on)

get_mapped : (measure : ℤ → ℤ) (ns : List ℤ) (i : ℕ) → i < length ns
    → get_or (map measure ns) i (pos 0) ≡ measure (get_or ns i (pos 0))
get_mapped measure [] i h = absurd (omega (arith, h))
get_mapped measure (n ∷ ns) zero h = refl
get_mapped measure (n ∷ ns) (suc i) h = get_mapped measure ns i (omega (arith, h))

length_mapped : (measure : ℤ → ℤ) (ns : List ℤ) → length (map measure ns) ≡ length ns
length_mapped measure [] = refl
length_mapped measure (n ∷ ns) = ap suc (length_mapped measure ns)

-- the sum of what is measured of a level's numbers
pub sum_of_measured : (s : Shape) (measure : ℤ → ℤ) (ns : List ℤ) → IsShape s
    → length ns ≡ point_count (whole s)
    → reduced Sum (map measure ns) ≡ grid_total s (λ p. measure (at s ns p))
sum_of_measured s measure ns shape count =
    reduced_listed (map measure ns) ∙ ap (λ n. total 0 n (λ i. get_or (map measure ns) i (pos 0)))
    (length_mapped measure ns)
    ∙ total_same 0 (length ns) (λ i. get_or (map measure ns) i (pos 0))
    (λ i. measure (get_or ns i (pos 0)))
    (λ i low high. get_mapped measure ns i (omega (arith, high)))
    ∙ ap (λ n. total 0 n (λ i. measure (get_or ns i (pos 0)))) count
    ∙ grid_placed s (λ i. measure (get_or ns i (pos 0))) (λ p. measure (at s ns p))
    (λ x y z on. ap measure (at_own s ns x y z shape on))

map_twice : (measure : ℤ → ℤ) (h : ℕ → ℤ) (is : List ℕ)
    → map measure (map h is) ≡ map (λ i. measure (h i)) is
map_twice measure h [] = refl
map_twice measure h (i ∷ is) = ap (λ ns. measure (h i) ∷ ns) (map_twice measure h is)

-- the sum of what is measured of a function's numbers
pub sum_of_measures : (s : Shape) (measure : ℤ → ℤ) (f : Point → ℤ)
    → reduced Sum (map measure (numbers_in (whole s) f)) ≡ grid_total s (λ p. measure (f p))
sum_of_measures s measure f =
    ap (reduced Sum)
    (map_twice measure (λ i. f (point_in (whole s) i)) (range_with_len 0 (point_count (whole s))))
    ∙ sum_of_numbers s (λ p. measure (f p))
