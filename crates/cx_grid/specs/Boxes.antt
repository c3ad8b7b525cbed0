-- Boxes of points, and the one order of their points: x is the fastest, then y. The directions x, y
-- and z are 0, 1 and 2.
use Rattle.std.specs.Prelude.{ℕ, zero, suc, ◌+◌, ◌*◌, ◌/◌, ◌%◌, ◌^◌, ◌<◌, Bool, ◌&&◌, ℤ, pos, ◌+ℤ◌, ◌≤ℤ◌, ◌<ℤ◌, int_le, int_lt, List, map}
use Rattle.std.specs.List.{range_with_len}
use Rattle.std.specs.Int.{int_gap}
use Rattle.cx_grid.specs.declared.boxes.Point.{Point}
use Rattle.cx_grid.specs.declared.boxes.Box3.{Box3}

-- the coordinate of a point in a direction
abbrev pub along : Point → ℕ → ℤ
along p zero = p.x
along p (suc zero) = p.y
along p (suc (suc d)) = p.z

-- the point with these coordinates, by direction
abbrev pub point_by : (ℕ → ℤ) → Point
point_by f = record { x = f 0; y = f 1; z = f 2 }

-- the point moved by an offset
abbrev pub shifted : Point → Point → Point
shifted p o = record { x = p.x +ℤ o.x; y = p.y +ℤ o.y; z = p.z +ℤ o.z }

-- a coordinate from low on and below high
pub record IsOn (low high c : ℤ) : Type 0 where
  pub from : low ≤ℤ c
  pub below : c <ℤ high

-- a box holds a point
pub record IsIn (b : Box3) (p : Point) : Type 0 where
  pub x : IsOn b.low.x b.high.x p.x
  pub y : IsOn b.low.y b.high.y p.y
  pub z : IsOn b.low.z b.high.z p.z

-- whether a coordinate is from low on and below high, and whether a box holds a point
abbrev pub is_on : ℤ → ℤ → ℤ → Bool
is_on low high c = int_le low c && int_lt c high

abbrev pub has_point : Box3 → Point → Bool
has_point b p = is_on b.low.x b.high.x p.x && is_on b.low.y b.high.y p.y
    && is_on b.low.z b.high.z p.z

-- no end of a box is below its start
pub record IsBox (b : Box3) : Type 0 where
  pub x : b.low.x ≤ℤ b.high.x
  pub y : b.low.y ≤ℤ b.high.y
  pub z : b.low.z ≤ℤ b.high.z

-- how many points a box has in a direction: 0 where its end is not above its start
abbrev pub extent : Box3 → ℕ → ℕ
extent b d = int_gap (along b.low d) (along b.high d)

-- how many points a box has
abbrev pub point_count : Box3 → ℕ
point_count b = extent b 0 * extent b 1 * extent b 2

abbrev pub IsSmall : Box3 → Type 0
IsSmall b = point_count b < 2 ^ 32

-- the place of a point in a box
abbrev pub index_in : Box3 → Point → ℕ
index_in b p = int_gap b.low.x p.x
    + extent b 0 * (int_gap b.low.y p.y + extent b 1 * int_gap b.low.z p.z)

-- the point at a place of a box
abbrev pub point_in : Box3 → ℕ → Point
point_in b i =
    record {
      x = b.low.x +ℤ pos (i % extent b 0);
      y = b.low.y +ℤ pos (i / extent b 0 % extent b 1);
      z = b.low.z +ℤ pos (i / extent b 0 / extent b 1);
    }

-- the points of a box, each once, x fastest
abbrev pub points_in : Box3 → List Point
points_in b = map (point_in b) (range_with_len 0 (point_count b))

-- a function's numbers at the points of a box, x fastest
abbrev pub numbers_in : Box3 → (Point → ℤ) → List ℤ
numbers_in b f = map (λ i. f (point_in b i)) (range_with_len 0 (point_count b))
