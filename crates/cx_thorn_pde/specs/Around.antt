-- The values around a point.
use Rattle.std.specs.Prelude.{ℕ, ℤ, pos, negsuc, ◌+ℤ◌, ◌-ℤ◌, ◌*ℤ◌, nat_eq, nat_lt, if◌then◌else◌}
use Rattle.cx_grid.specs.declared.boxes.Point.{Point}
use Rattle.cx_grid.specs.Boxes.{point_by}
use Rattle.cx_rule.specs.Seen.{Seen, value_of}
use Rattle.cx_rule.specs.Single.{here}

-- the offset that is a number in one direction
abbrev pub step : ℕ → ℤ → Point
step d by = point_by (λ e. if nat_eq e d then by else pos 0)

-- the first read's values at two offsets, minus twice the one at the point
abbrev pub bend_at : Seen → Point → Point → ℤ
bend_at w up down = value_of w 0 up +ℤ value_of w 0 down -ℤ pos 2 *ℤ value_of w 0 here

-- both neighbours in a direction, minus twice the value
abbrev pub bend : Seen → ℕ → ℤ
bend w d = bend_at w (step d (pos 1)) (step d (negsuc 0))

-- nothing in a direction that the grid does not have
abbrev pub bend_if : Seen → ℕ → ℤ
bend_if w d = if nat_lt d w.dims then bend w d else pos 0

-- the sum over the grid's directions
abbrev pub lap : Seen → ℤ
lap w = bend_if w 0 +ℤ bend_if w 1 +ℤ bend_if w 2
