-- The directions that have boundary points.
use Rattle.std.specs.Prelude.{ℕ, Bool, ◌&&◌, ◌||◌, not, pos, int_le}
use Rattle.cx_grid.specs.declared.shapes.Shape.{Shape}
use Rattle.cx_grid.specs.Boxes.{along}
use Rattle.cx_grid.specs.Grid.{is_periodic}

-- a direction that is not periodic has ghost points
abbrev pub has_faces : Shape → ℕ → Bool
has_faces s d = not (is_periodic s d) && int_le (pos 1) (along s.ghost_ d)

abbrev pub has_faced_direction : Shape → Bool
has_faced_direction s = has_faces s 0 || has_faces s 1 || has_faces s 2
