-- The law of neighbours: which part sends to which, and that the face of the one is the halo of the
-- other.
use Rattle.std.specs.Prelude.{ℕ, suc, ◌<◌, ◌≤◌, ◌≡◌, ◌⊎◌, Option, Some, None, pos, int_le, if◌then◌else◌}
use Rattle.cx_grid.specs.declared.boxes.Point.{Point}
use Rattle.cx_grid.specs.declared.shapes.Side.{Side}
use Rattle.cx_grid.specs.declared.shapes.Side.TheVariants.{Low, High}
use Rattle.cx_grid.specs.Boxes.{along, IsIn, point_count, index_in, point_in}
use Rattle.cx_grid.specs.Grid.{wrap}
use Rattle.cx_cut.specs.Cuts.{Parts, part_count, local, neighbour, face_of, halo_of, IsReached}
use Rattle.cx_cut.specs.Exchange.{other}

-- the part with which layers are exchanged at a side: the neighbour, and none where there are no
-- ghosts
abbrev pub partner : Parts → ℕ → ℕ → Side → Option ℕ
partner c k d side = if int_le (along c.shape.ghost_ d) (pos 0) then None else neighbour c k d side

-- a point that a part receives in a direction: the part that sends it, and at which side
pub record Received (c : Parts) (k d : ℕ) (p : Point) : Type 0 where
  pub side : Side
  pub from : ℕ
  pub partner_is : partner c k d side ≡ Some from
  pub inside : IsIn (halo_of c k d side) p

-- a point that no halo of the direction holds
abbrev pub IsOutside : Parts → ℕ → ℕ → Point → Type 0
IsOutside c k d p = (side : Side) → IsIn (halo_of c k d side) p → ⊥

pub record Neighbours (c : Parts) : Type 0 where
  -- what a part takes at a side its partner there sends from its other side
  pub there : (k d : ℕ) (side : Side) (j : ℕ) → k < part_count c → d < 3
      → partner c k d side ≡ Some j → j < part_count c
  pub back : (k d : ℕ) (side : Side) (j : ℕ) → k < part_count c → d < 3
      → partner c k d side ≡ Some j
      → partner c j d (other side) ≡ Some k
  -- as many points
  pub counts : (k d : ℕ) (side : Side) (j : ℕ) → k < part_count c → d < 3
      → partner c k d side ≡ Some j
      → point_count (face_of c j d (other side)) ≡ point_count (halo_of c k d side)
  -- the point of the face at the place of a point of the halo is the same point of the grid
  pub same : (k d : ℕ) (side : Side) (j : ℕ) (p : Point) → k < part_count c → d < 3
      → partner c k d side ≡ Some j
      → IsIn (halo_of c k d side) p
      → wrap c.shape (point_in (face_of c j d (other side)) (index_in (halo_of c k d side) p))
      ≡ wrap c.shape p
  -- what is sent was reached in the directions before
  pub face_reached : (k d : ℕ) (side : Side) (p : Point) → k < part_count c → d < 3
      → IsIn (face_of c k d side) p → IsReached c k d p
  -- a local point is received or lies outside of both halos, and then it was reached before where
  -- it is reached behind the direction
  pub split : (k d : ℕ) (p : Point) → k < part_count c → d < 3 → IsIn (local c k) p
      → Received c k d p ⊎ IsOutside c k d p
  pub before : (k d : ℕ) (p : Point) → k < part_count c → d < 3 → IsReached c k (suc d) p
      → IsOutside c k d p → IsReached c k d p
  -- both halos have no point in common
  pub apart : (k d : ℕ) (p : Point) → k < part_count c → d < 3 → IsIn (halo_of c k d Low) p
      → IsIn (halo_of c k d High) p → ⊥
  -- what is received is local
  pub halo_local : (k d : ℕ) (side : Side) (j : ℕ) (p : Point) → k < part_count c → d < 3
      → partner c k d side ≡ Some j
      → IsIn (halo_of c k d side) p → IsIn (local c k) p
  -- in a direction that the grid doesn't have no local point lies beyond the owned ones
  pub flat : (k d : ℕ) (p : Point) → k < part_count c → c.shape.dims ≤ d → IsIn (local c k) p
      → IsReached c k d p
