-- Variables with the levels that are stored of them, and how many cells they have.
use Rattle.std.specs.Prelude.{ℕ, ◌-◌, ◌*◌, ◌^◌, min, List, map, slice_index_or}
use Rattle.std.specs.List.{enumerate_from}
use Rattle.cx_grid.specs.declared.shapes.Shape.{Shape}
use Rattle.cx_grid.specs.Boxes as boxes
use Rattle.cx_grid.specs.Grid.{whole}
use Rattle.cx_plan.specs.declared.variable.VarInfo.{VarInfo}
use Rattle.cx_plan.specs.Whole.{grid_levels}
use Rattle.cx_bind.specs.declared.thorns.Thorn.{Thorn}
use Rattle.cx_bind.specs.Variables.{variable_infos}
use Rattle.cx_text.specs.Numbers.{in_64_bits}

-- a variable by its number, with its stored levels; none where none are said
abbrev pub stored_info : List ℕ → ℕ × VarInfo → VarInfo
stored_info storage v = record v.1 { levels = slice_index_or storage v.0 0 }

abbrev pub stored_infos : List Thorn → List ℕ → List VarInfo
stored_infos thorns storage = map (stored_info storage) (enumerate_from 0 (variable_infos thorns))

abbrev pub point_count : Shape → ℕ
point_count shape = in_64_bits (boxes.point_count (whole shape))

-- the points of the grid, once for each stored level of each grid variable
abbrev pub owned_cells : Shape → List VarInfo → ℕ
owned_cells shape vars = in_64_bits (grid_levels vars * boxes.point_count (whole shape))
