-- Points of a box and their places: each names the other.
use Rattle.std.proofs.Common.{◌≡◌, ℕ, zero, suc, ◌+◌, ◌*◌, ◌/◌, ◌%◌, ◌<◌, ◌≤◌, arith, refl, sym, ap, ◌∙◌, mul-le-mul_left, mul_assoc, mul_comm, ℤ, pos, negsuc, ◌+ℤ◌, ◌≤ℤ◌}
use Rattle.std.specs.Int.{int_gap}
use Rattle.std.proofs.lemmas.Int.{ints, by_lt_z}
use Rattle.std.proofs.lemmas.Nat.{mod-mul-add, div-mul-add}
use Rattle.std.proofs.Math.Nat.{div-lt_iff_lt-mul}
use Rattle.cx_grid.specs.declared.boxes.Point.{Point}
use Rattle.cx_grid.specs.declared.boxes.Box3.{Box3}
use Rattle.cx_grid.specs.Boxes.{IsOn, IsIn, extent, point_count, index_in, point_in}

-- numbers of a direction
pub gap_up : (low c : ℤ) → low ≤ℤ c → low +ℤ pos (int_gap low c) ≡ c
gap_up (pos a) (pos b) h = let e : a ≤ b = omega (arith, ints) in ap pos (omega arith)
gap_up (pos a) (negsuc b) h = absurd (omega (arith, ints))
gap_up (negsuc a) (pos b) h = omega (arith, ints)
gap_up (negsuc a) (negsuc b) h = let e : b ≤ a = omega (arith, ints) in omega (arith, ints)

pub gap_below : (low high c : ℤ) → IsOn low high c → int_gap low c < int_gap low high
gap_below low high c h =
    let over : low ≤ℤ high = omega (arith, ints) in
    omega (arith, ints, gap_up low c h.from, gap_up low high over)

pub gap_at : (low : ℤ) (i : ℕ) → int_gap low (low +ℤ pos i) ≡ i
gap_at low i =
    let over : low ≤ℤ (low +ℤ pos i) = omega (arith, ints) in
    omega (arith, ints, gap_up low (low +ℤ pos i) over)

pub gap_none : (low high : ℤ) → high ≤ℤ low → int_gap low high ≡ 0
gap_none (pos a) (pos b) h = let e : b ≤ a = omega (arith, ints) in omega arith
gap_none (pos a) (negsuc b) h = refl
gap_none (negsuc a) (pos b) h = absurd (omega (arith, ints))
gap_none (negsuc a) (negsuc b) h = let e : a ≤ b = omega (arith, ints) in omega arith

pub on_at : (low high : ℤ) (i : ℕ) → i < int_gap low high → IsOn low high (low +ℤ pos i)
on_at low high i h = by_lt_z low high
    (λ l. let over : low ≤ℤ high = omega (arith, ints) in
    record { from = omega (arith, ints); below = omega (arith, ints, gap_up low high over) })
    (λ l. absurd (omega (arith, gap_none low high l)))

-- places in three directions
pub radix : (a m b n : ℕ) → a < m → b < n → a + m * b < m * n
radix a m b n small below =
    let next : b + 1 ≤ n = omega arith in
    let rows : m * (b + 1) ≤ m * n = mul-le-mul_left m next in
    omega (arith, rows)

at_least : (b n : ℕ) → 1 ≤ n → b ≤ n * b
at_least b n some = omega (arith, mul-le-mul_left b some)

pub record Bounds (x nx y ny z nz : ℕ) : Type 0 where
  pub below : x + nx * (y + ny * z) < nx * ny * nz
  pub rows : y + ny * z ≤ nx * (y + ny * z)

pub bounds : (x nx y ny z nz : ℕ) → x < nx → y < ny → z < nz → Bounds x nx y ny z nz
bounds x nx y ny z nz in_x in_y in_z =
    let rows : y + ny * z < ny * nz = radix y ny z nz in_y in_z in
    let all : x + nx * (y + ny * z) < nx * (ny * nz) =
    radix x nx (y + ny * z) (ny * nz) in_x rows in
    let some : 1 ≤ nx = omega arith in
    record { below = rw mul_assoc all; rows = at_least (y + ny * z) nx some }

pub record Sides (k a b c : ℕ) : Type 0 where
  pub a_some : 0 < a
  pub b_some : 0 < b
  pub first : k % a < a
  pub second : k / a % b < b
  pub last : k / a / b < c

positive : (a b : ℕ) (k : ℕ) → k < a * b → 0 < a
positive zero b k h = absurd (omega arith)
positive (suc a) b k h = omega arith

pub sides : (k a b c : ℕ) → k < a * b * c → Sides k a b c
sides k a b c below =
    let ab : 0 < a * b = positive (a * b) c k below in
    let some_a : 0 < a = positive a b 0 ab in
    let some_b : 0 < b = positive b a 0 (omega (arith, mul_comm a b)) in
    let e : a * b * c ≡ c * b * a = grind arith in
    let swapped : k < c * b * a = omega (arith, below, e) in
    let rows : k / a < c * b = (div-lt_iff_lt-mul some_a).1 swapped in
    record {
      a_some = some_a;
      b_some = some_b;
      first = omega arith;
      second = omega arith;
      last = (div-lt_iff_lt-mul some_b).1 rows;
    }

pub record Split (x nx y ny z : ℕ) : Type 0 where
  pub first : (x + nx * (y + ny * z)) % nx ≡ x
  pub second : (x + nx * (y + ny * z)) / nx % ny ≡ y
  pub last : (x + nx * (y + ny * z)) / nx / ny ≡ z

pub split : (x nx y ny z : ℕ) → x < nx → y < ny → Split x nx y ny z
split x nx y ny z in_x in_y =
    let e : x + nx * (y + ny * z) ≡ (y + ny * z) * nx + x = grind arith in
    let e2 : y + ny * z ≡ z * ny + y = grind arith in
    let rows : (x + nx * (y + ny * z)) / nx ≡ y + ny * z =
    rw e (div-mul-add (y + ny * z) nx x in_x) in
    record {
      first = rw e (mod-mul-add (y + ny * z) nx x in_x);
      second = rw (rows, e2) (mod-mul-add z ny y in_y);
      last = rw (rows, e2) (div-mul-add z ny y in_y);
    }

pub joined : (i a b : ℕ) → 0 < a → 0 < b → i % a + a * (i / a % b + b * (i / a / b)) ≡ i
joined i a b some_a some_b =
    let inner : i / a % b + b * (i / a / b) ≡ i / a = omega arith in
    rw inner (omega arith)

-- points are equal where their numbers are
pub same_point : {x x' y y' z z' : ℤ} → x ≡ x' → y ≡ y' → z ≡ z'
    → ◌≡◌ {A = Point} record { x = x; y = y; z = z } record { x = x'; y = y'; z = z' }
same_point p q r i = record { x = p i; y = q i; z = r i }

pub index_below : (b : Box3) (p : Point) → IsIn b p → index_in b p < point_count b
index_below b p h =
    (bounds _ _ _ _ _ _ (gap_below _ _ _ h.x) (gap_below _ _ _ h.y) (gap_below _ _ _ h.z)).below

pub point_at_index : (b : Box3) (p : Point) → IsIn b p → point_in b (index_in b p) ≡ p
point_at_index b p h =
    let s = split (int_gap b.low.x p.x) (extent b 0) (int_gap b.low.y p.y) (extent b 1)
    (int_gap b.low.z p.z) (gap_below _ _ _ h.x) (gap_below _ _ _ h.y) in
    same_point
    (ap (λ n. b.low.x +ℤ pos n) s.first ∙ gap_up _ _ h.x.from)
    (ap (λ n. b.low.y +ℤ pos n) s.second ∙ gap_up _ _ h.y.from)
    (ap (λ n. b.low.z +ℤ pos n) s.last ∙ gap_up _ _ h.z.from)

pub point_inside : (b : Box3) (i : ℕ) → i < point_count b → IsIn b (point_in b i)
point_inside b i h =
    let s = sides i (extent b 0) (extent b 1) (extent b 2) h in
    record { x = on_at _ _ _ s.first; y = on_at _ _ _ s.second; z = on_at _ _ _ s.last }

pub index_at_point : (b : Box3) (i : ℕ) → i < point_count b → index_in b (point_in b i) ≡ i
index_at_point b i h =
    let s = sides i (extent b 0) (extent b 1) (extent b 2) h in
    rw (
      gap_at b.low.x (i % extent b 0),
      gap_at b.low.y (i / extent b 0 % extent b 1),
      gap_at b.low.z (i / extent b 0 / extent b 1),
    )
    (joined i (extent b 0) (extent b 1) s.a_some s.b_some)

pub index_once : (b : Box3) (p q : Point) → IsIn b p → IsIn b q → index_in b p ≡ index_in b q
    → p ≡ q
index_once b p q hp hq e = sym (point_at_index b p hp) ∙ ap (point_in b) e ∙ point_at_index b q hq
