-- The place of a point in global order.
use Rattle.std.specs.Prelude.{ℕ, ℤ, pos, negsuc, Bool, false, nat_eq, slice_index_or}
use Rattle.cx_grid.specs.Boxes.{index_in}
use Rattle.cx_grid.specs.Grid.{whole}
use Rattle.cx_rule.specs.declared.place.Place.{Place}

-- the place of its point among all points of the grid, x fastest
abbrev pub global_index : Place → ℕ
global_index at = index_in (whole at.shape) at.at

-- the number of a parameter
abbrev pub param_of : Place → ℕ → ℤ
param_of at k = slice_index_or at.params k (pos 0)

-- whether a number is this place
abbrev pub is_place : ℤ → ℕ → Bool
is_place (pos n) index = nat_eq n index
is_place (negsuc n) index = false
