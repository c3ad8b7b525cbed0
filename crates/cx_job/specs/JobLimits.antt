-- The limits of a job, in their order.
use Rattle.std.specs.Prelude.{ℕ, ◌*◌, ◌-◌, ◌^◌, nat_lt, List, length, take, codes, Option, Some, None, if◌then◌else◌}
use Rattle.std.specs.List.{flat_map}
use Rattle.cx_grid.specs.declared.shapes.Shape.{Shape}
use Rattle.cx_grid.specs.Boxes.{point_count}
use Rattle.cx_grid.specs.Grid.{whole}
use Rattle.cx_plan.specs.Lists.{or_else, first_of_each}
use Rattle.cx_plan.specs.Lookups.{called, run_bin_count}
use Rattle.cx_plan.specs.Whole.{grid_levels}
use Rattle.cx_plan.specs.declared.variable.VarInfo.{VarInfo}
use Rattle.cx_plan.specs.declared.item.Item.{Item}
use Rattle.cx_plan.specs.declared.tree.Schedule.{Schedule}
use Rattle.cx_job.specs.declared.fault.JobFault.{JobFault}
use Rattle.cx_job.specs.declared.fault.JobFault.TheVariants.{Limit}
use Rattle.cx_text.specs.Numbers.{in_64_bits}

-- a number that 64 bits do not hold is told as their greatest
abbrev pub over : List ℕ → ℕ → ℕ → Option JobFault
over what number limit = if nat_lt limit number then Some (Limit what (in_64_bits number)) else None

-- ---- items

-- how many items the bins that are run call; these stand first
abbrev pub run_count : Schedule → ℕ
run_count plan = length (flat_map called (take run_bin_count plan.bins))

abbrev pub writes_fault : Item → Option JobFault
writes_fault x = over (codes "writes") (length x.writes) 16

abbrev pub reads_fault : Item → Option JobFault
reads_fault x = over (codes "reads") (length x.reads) 32

abbrev pub parameters_fault : Item → Option JobFault
parameters_fault x = over (codes "parameters") (length x.params) 32

-- the writes of all items go before the reads of any, and these before the parameters
abbrev pub each_limit : List Item → Option JobFault
each_limit items = or_else (first_of_each writes_fault items)
    (or_else (first_of_each reads_fault items) (first_of_each parameters_fault items))

-- only these items have limits
abbrev pub item_limits : ℕ → List Item → Option JobFault
item_limits run items = each_limit (take run items)

-- ---- the grid and the key

abbrev pub points_fault : Shape → Option JobFault
points_fault shape = over (codes "points") (point_count (whole shape)) (2 ^ 24)

-- the points of the grid, once for each stored level of each grid variable
abbrev pub cells_fault : Shape → List VarInfo → Option JobFault
cells_fault shape vars =
    over (codes "owned cells") (grid_levels vars * point_count (whole shape)) (2 ^ 26)

abbrev pub grid_limits : Shape → List VarInfo → Option JobFault
grid_limits shape vars = or_else (points_fault shape) (cells_fault shape vars)

abbrev pub key_limit : List ℕ → Option JobFault
key_limit key = over (codes "key") (length key) (2 ^ 32 - 1)

-- ---- all together

abbrev pub limit_fault : ℕ → List Item → Shape → List VarInfo → List ℕ → Option JobFault
limit_fault run items shape vars key =
    or_else (item_limits run items) (or_else (grid_limits shape vars) (key_limit key))
