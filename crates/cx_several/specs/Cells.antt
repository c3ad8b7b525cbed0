-- How many cells the jobs of a batch have together.
use Rattle.std.specs.Prelude.{ℕ, ◌*◌, ◌≤◌, List, map, sum}
use Rattle.cx_grid.specs.Boxes.{point_count}
use Rattle.cx_grid.specs.Grid.{IsShape, whole}
use Rattle.cx_plan.specs.Whole.{grid_levels}
use Rattle.cx_plan.specs.declared.job.Job.{Job}
use Rattle.cx_job.specs.JobLimits.{run_count}
use Rattle.cx_job.specs.LocalCells.{local_cells}

-- the points of a job's grid, once for each stored level of each grid variable
abbrev pub owned_cells : Job → ℕ
owned_cells job = grid_levels job.vars * point_count (whole job.shape)

abbrev pub owned_by_all : List Job → ℕ
owned_by_all jobs = sum (map owned_cells jobs)

-- those of all parts, as each job's own limit counts them
abbrev pub local_by_all : List Job → ℕ
local_by_all jobs = sum (map local_cells jobs)

-- a job whose grid can be cut, and whose bins that are run call not too many items
pub record IsCuttable (job : Job) : Type 0 where
  pub shape : IsShape job.shape
  pub few : run_count job.plan ≤ 4096
