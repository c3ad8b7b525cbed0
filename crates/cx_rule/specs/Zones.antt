-- The points that an item computes in a part.
use Rattle.std.specs.Prelude.{ℕ, Bool, false, ◌≡◌, not, ◌&&◌, pos, ◌-ℤ◌, ◌+ℤ◌, if◌then◌else◌, length, filter}
use Rattle.std.specs.Int.{int_min, int_max}
use Rattle.cx_grid.specs.declared.boxes.Point.{Point}
use Rattle.cx_grid.specs.declared.boxes.Box3.{Box3}
use Rattle.cx_grid.specs.declared.shapes.Shape.{Shape}
use Rattle.cx_grid.specs.Boxes.{IsIn, along, point_by, points_in, has_point}
use Rattle.cx_grid.specs.Grid.{is_periodic}
use Rattle.cx_plan.specs.declared.item.Region.{Region}
use Rattle.cx_plan.specs.declared.item.Region.TheVariants.{Interior, Boundary, Everywhere}
use Rattle.cx_plan.specs.declared.item.ItemKind.{ItemKind}
use Rattle.cx_plan.specs.declared.item.ItemKind.TheVariants.{Cell, Scalar, Sum, Least, Greatest, Count}
use Rattle.cx_rule.specs.declared.zone.Zone.{Zone}

-- whether a zone holds a point: its outer box does, and its hole does not
abbrev pub in_zone : Zone → Point → Bool
in_zone z p = has_point z.all p && not (has_point z.hole p)

-- a point of a zone's box that lies in its hole
pub record IsOutside (z : Zone) (p : Point) : Type 0 where
  pub all : IsIn z.all p
  pub hole : in_zone z p ≡ false

-- a box's points that are interior: in a direction that is not periodic, those from the ghost width
-- on and below that width before the end
abbrev pub inner : Shape → Box3 → Box3
inner s b =
    record {
      low = point_by (λ d. if is_periodic s d then along b.low d
          else int_max (along b.low d) (along s.ghost_ d));
      high = point_by (λ d. if is_periodic s d then along b.high d
          else int_min (along b.high d) (along s.n d -ℤ along s.ghost_ d));
    }

-- a box without points
abbrev pub nothing : Box3 → Box3
nothing b = record { low = b.low; high = b.low }

-- the first point of a box
abbrev pub first_of : Box3 → Box3
first_of b = record { low = b.low; high = point_by (λ d. along b.low d +ℤ pos 1) }

-- interior points are computed where they are owned, all others at each local point
abbrev pub zone_of : Shape → Box3 → Box3 → Region → Zone
zone_of s owned local Interior = record { all = inner s owned; hole = nothing owned }
zone_of s owned local Boundary = record { all = local; hole = inner s local }
zone_of s owned local Everywhere = record { all = local; hole = nothing local }

-- an item's zone; a Scalar item's is the first owned point
abbrev pub item_zone : ItemKind → Shape → Box3 → Box3 → Region → Zone
item_zone Cell s owned local region = zone_of s owned local region
item_zone Scalar s owned local region = record { all = first_of owned; hole = nothing owned }
item_zone Sum s owned local region = record { all = nothing owned; hole = nothing owned }
item_zone Least s owned local region = record { all = nothing owned; hole = nothing owned }
item_zone Greatest s owned local region = record { all = nothing owned; hole = nothing owned }
item_zone Count s owned local region = record { all = nothing owned; hole = nothing owned }

-- how many points a zone has
abbrev pub zone_points : Zone → ℕ
zone_points z = length (filter (in_zone z) (points_in z.all))
