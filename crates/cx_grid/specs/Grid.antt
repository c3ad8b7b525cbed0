-- The grid: which shapes there are, wrap, boundary and interior, and levels as whole lists of
-- numbers.
use Rattle.std.specs.Prelude.{ℕ, ◌≡◌, ◌<◌, ◌≤◌, ◌^◌, Bool, false, IsTrue, ◌&&◌, ◌||◌, not, ℤ, pos, ◌+ℤ◌, ◌-ℤ◌, ◌*ℤ◌, ◌≤ℤ◌, int_lt, int_le, List, if◌then◌else◌, slice_index_or, ◌⊎◌}
use Rattle.std.specs.Int.{int_rem_euclid, int_min, int_max}
use Rattle.cx_grid.specs.declared.boxes.Point.{Point}
use Rattle.cx_grid.specs.declared.boxes.Box3.{Box3}
use Rattle.cx_grid.specs.declared.shapes.Shape.{Shape}
use Rattle.cx_grid.specs.Boxes.{along, point_by, point_count, index_in, IsOn}

-- the points of a direction, and the width of its ghost zone
pub record IsAxis (n ghosts : ℤ) : Type 0 where
  pub some : pos 1 ≤ℤ n
  pub most : n ≤ℤ pos 16777216
  pub least_ghosts : pos 0 ≤ℤ ghosts
  pub most_ghosts : ghosts ≤ℤ pos 8

-- a direction that the grid does not have
pub record IsNoAxis (n ghosts : ℤ) : Type 0 where
  pub one : n ≡ pos 1
  pub no_ghosts : ghosts ≡ pos 0

-- the box of all points of the grid
abbrev pub whole : Shape → Box3
whole s = record { low = point_by (λ d. pos 0); high = s.n }

-- what every call asks of a shape
pub record IsShape (s : Shape) : Type 0 where
  pub some : 1 ≤ s.dims
  pub most : s.dims ≤ 3
  pub x : IsAxis s.n.x s.ghost_.x
  pub y : IsAxis s.n.y s.ghost_.y
  pub z : IsAxis s.n.z s.ghost_.z
  pub no_y : s.dims < 2 → IsNoAxis s.n.y s.ghost_.y
  pub no_z : s.dims < 3 → IsNoAxis s.n.z s.ghost_.z
  pub few : point_count (whole s) ≤ 2 ^ 24

abbrev pub is_periodic : Shape → ℕ → Bool
is_periodic s d = slice_index_or s.periodic d false

-- each coordinate of a periodic direction modulo its number of points
abbrev pub wrap_along : Shape → ℕ → ℤ → ℤ
wrap_along s d c = if is_periodic s d then int_rem_euclid c (along s.n d) else c

abbrev pub wrap : Shape → Point → Point
wrap s p = point_by (λ d. wrap_along s d (along p d))

-- a point lies outside the grid in periodic directions alone
pub record IsNearGrid (s : Shape) (p : Point) : Type 0 where
  pub x : IsTrue (is_periodic s 0) ⊎ IsOn (pos 0) s.n.x p.x
  pub y : IsTrue (is_periodic s 1) ⊎ IsOn (pos 0) s.n.y p.y
  pub z : IsTrue (is_periodic s 2) ⊎ IsOn (pos 0) s.n.z p.z

-- whether a coordinate is below the ghost width or from that width before the end on, in a
-- direction that is not periodic
abbrev pub in_face : Shape → ℕ → ℤ → Bool
in_face s d c = not (is_periodic s d)
    && (int_lt c (along s.ghost_ d) || int_le (along s.n d -ℤ along s.ghost_ d) c)

-- whether a point is a boundary point; all others are interior
abbrev pub is_boundary : Shape → Point → Bool
is_boundary s p = in_face s 0 p.x || (in_face s 1 p.y || in_face s 2 p.z)

-- a direction is periodic or has interior points
abbrev pub HasInner : Shape → ℕ → Type 0
HasInner s d = IsTrue (is_periodic s d) ⊎ ((pos 2 *ℤ along s.ghost_ d +ℤ pos 1) ≤ℤ along s.n d)

-- the grid has interior points
pub record HasInterior (s : Shape) : Type 0 where
  pub x : HasInner s 0
  pub y : HasInner s 1
  pub z : HasInner s 2

-- each coordinate of a direction that is not periodic moved into the interior
abbrev pub source_along : Shape → ℕ → ℤ → ℤ
source_along s d c =
    if is_periodic s d then c
    else int_max (along s.ghost_ d) (int_min c (along s.n d -ℤ along s.ghost_ d -ℤ pos 1))

abbrev pub source : Shape → Point → Point
source s p = point_by (λ d. source_along s d (along p d))

-- the number of a level at a point; its periodic coordinates are taken modulo the number of points
abbrev pub at : Shape → List ℤ → Point → ℤ
at s level p = slice_index_or level (index_in (whole s) (wrap s p)) (pos 0)
