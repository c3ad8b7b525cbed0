-- Offsets of neighbours.
use Rattle.std.specs.Prelude.{ℕ, ℤ, pos, nat_eq, if◌then◌else◌}
use Rattle.cx_grid.specs.declared.boxes.Point.{Point}
use Rattle.cx_grid.specs.Boxes.{point_by}

-- the offset that is a number in one direction
abbrev pub step : ℕ → ℤ → Point
step d by = point_by (λ e. if nat_eq e d then by else pos 0)
