-- What is left of a walk over a box's points.
use Rattle.std.specs.Prelude.{List, [], drop, Option, Some, None}
use Rattle.cx_grid.specs.declared.boxes.Point.{Point}
use Rattle.cx_grid.specs.declared.boxes.Box3.{Box3}
use Rattle.cx_grid.specs.Boxes.{IsIn, index_in, points_in}

-- the points from the next one on, which may be none
abbrev pub points_from : Box3 → Option Point → List Point
points_from b None = []
points_from b (Some p) = drop (index_in b p) (points_in b)

-- the next point, if there is one, lies in the box
abbrev pub IsNext : Box3 → Option Point → Type 0
IsNext b None = Unit {0}
IsNext b (Some p) = IsIn b p
