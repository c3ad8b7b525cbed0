-- How many numbers the parts of a job hold.
use Rattle.std.specs.Prelude.{ℕ, ◌+◌, ◌*◌, max, List, fold, sum_by, map, length, take}
use Rattle.std.specs.List.{range_with_len}
use Rattle.cx_grid.specs.Boxes.{point_count}
use Rattle.cx_plan.specs.Whole.{grid_levels}
use Rattle.cx_plan.specs.declared.item.Item.{Item}
use Rattle.cx_plan.specs.declared.job.Job.{Job}
use Rattle.cx_rule.specs.Seen.{volumes}
use Rattle.cx_rule.specs.Sweeps.{reach_of}
use Rattle.cx_cut.specs.Cuts.{Parts, part_count, local}
use Rattle.cx_cut.specs.Faults.{parts_of}
use Rattle.cx_job.specs.JobLimits.{run_count}
use Rattle.cx_rule.specs.Patches.{write_count, value_count}

-- the greatest number of several items, or parts; 0 where there is none
abbrev pub greatest : {X : Type 0} → (X → ℕ) → List X → ℕ
greatest f xs = fold (λ n x. max n (f x)) 0 xs

-- the items of the bins that are run
abbrev pub items_run : Job → List Item
items_run job = take (run_count job.plan) job.items

-- the numbers of a part that has so many at each of its points, its own ones and its ghosts, and
-- one window; and those of all parts
abbrev pub part_cells : Parts → ℕ → ℕ → ℕ → ℕ
part_cells c each window k = point_count (local c k) * each + window

abbrev pub cells_by : Parts → ℕ → ℕ → ℕ
cells_by c each window = sum_by (part_cells c each window) (range_with_len 0 (part_count c))

-- At each point a part has a number for each stored level of each grid variable, and one for each
-- write of the item that writes most.
abbrev pub local_cells : Job → ℕ
local_cells job =
    cells_by (parts_of job.shape job.cut)
    (grid_levels job.vars + greatest write_count (items_run job))
    (greatest (value_count job.shape.dims) (items_run job))
