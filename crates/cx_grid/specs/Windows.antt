-- The values around a point that one read hands to a rule.
use Rattle.std.specs.Prelude.{ℕ, ◌+◌, ℤ, pos, neg_ℤ, List, nat_lt, if◌then◌else◌}
use Rattle.cx_grid.specs.declared.boxes.Point.{Point}
use Rattle.cx_grid.specs.declared.boxes.Box3.{Box3}
use Rattle.cx_grid.specs.declared.shapes.Shape.{Shape}
use Rattle.cx_grid.specs.Boxes.{point_by, shifted, numbers_in}
use Rattle.cx_grid.specs.Grid.{at}

-- the offsets of at most this reach in each of so many directions
abbrev pub reach_box : ℕ → ℕ → Box3
reach_box dims reach =
    record {
      low = point_by (λ d. if nat_lt d dims then neg_ℤ (pos reach) else pos 0);
      high = point_by (λ d. if nat_lt d dims then pos (reach + 1) else pos 1);
    }

-- the window of a level at a point
abbrev pub window : Shape → List ℤ → Point → ℕ → List ℤ
window s level p reach = numbers_in (reach_box s.dims reach) (λ o. at s level (shifted p o))
