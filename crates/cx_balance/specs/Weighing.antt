-- What the points of a grid weigh, and the planes of its directions.
use Rattle.std.specs.Prelude.{ℕ, ◌+◌, ◌*◌, ◌^◌, ◌≡◌, ◌==◌, min, ℤ, pos, unsigned_abs, List, [], map, length, take, slice_index_or, Option, Some, None, IfSome, All, if◌then◌else◌}
use Rattle.std.specs.List.{range_with_len, sum_by}
use Rattle.cx_grid.specs.declared.boxes.Point.{Point}
use Rattle.cx_grid.specs.declared.boxes.Box3.{Box3}
use Rattle.cx_grid.specs.declared.shapes.Shape.{Shape}
use Rattle.cx_grid.specs.Boxes.{along, point_by, point_count, index_in, points_in, IsIn}
use Rattle.cx_grid.specs.Grid.{whole}
use Rattle.cx_plan.specs.declared.variable.VarId.{VarId}
use Rattle.cx_plan.specs.declared.variable.VarInfo.{VarInfo}
use Rattle.cx_plan.specs.declared.job.Job.{Job}
use Rattle.cx_plan.specs.Whole.{level_count}
use Rattle.cx_chk.specs.declared.checkpoint.Checkpoint.{Checkpoint}

-- ---- planes

-- the points of a grid whose coordinate in a direction is k
abbrev pub plane : Shape → (d k : ℕ) → Box3
plane s d k =
    record {
      low = point_by (λ e. if d == e then pos k else pos 0);
      high = point_by (λ e. if d == e then pos (k + 1) else along s.n e);
    }

-- a box has points of the grid alone
abbrev pub LiesOn : Shape → Box3 → Type 0
LiesOn s b = (p : Point) → IsIn b p → IsIn (whole s) p

-- what the planes of a direction weigh, each of its points together
abbrev pub planes_by : Shape → (Point → ℕ) → (d : ℕ) → List ℕ
planes_by s weight d =
    map (λ k. sum_by weight (points_in (plane s d k)))
    (range_with_len 0 (unsigned_abs (along s.n d)))

-- ---- points

-- how many levels a checkpoint holds before the current one of a variable
abbrev pub levels_before : List VarInfo → VarId → ℕ
levels_before vars v = sum_by level_count (take v.0 vars)

-- the numbers of a variable's current level
abbrev pub current_level : Job → Checkpoint → VarId → List ℤ
current_level job state v = slice_index_or state.levels (levels_before job.vars v) []

-- the number of a level at a point of the grid
abbrev pub number_at : Shape → List ℤ → Point → ℤ
number_at s level p = slice_index_or level (index_in (whole s) p) (pos 0)

-- what a point with this number weighs
abbrev pub number_weight : (factor : ℕ) → ℤ → ℕ
number_weight factor number = 1 + factor * min (unsigned_abs number) (2 ^ 20)

-- what a point weighs by the numbers of a level
abbrev pub weight_at : Shape → (factor : ℕ) → List ℤ → Point → ℕ
weight_at s factor level p = number_weight factor (number_at s level p)

-- what a point weighs by the current numbers of a variable; where there is none, 1
abbrev pub point_weight : Job → Checkpoint → Option VarId → Point → ℕ
point_weight job state None = λ p. 1
point_weight job state (Some v) = weight_at job.shape job.weight_factor (current_level job state v)

-- ---- a job's planes

-- a checkpoint has the current level of the variable that weighs, a number for each point
abbrev pub HasWeight : Job → Checkpoint → Type 0
HasWeight job state =
    IfSome job.weight (λ v. length (current_level job state v) ≡ point_count (whole job.shape))

-- what the planes of a direction weigh
abbrev pub planes : Job → Checkpoint → (d : ℕ) → List ℕ
planes job state = planes_by job.shape (point_weight job state job.weight)

-- ---- what makes it so

-- a checkpoint holds the levels of all grid variables, each with a number for each point
pub record HoldsLevels (job : Job) (state : Checkpoint) : Type 0 where
  pub count : length state.levels ≡ sum_by level_count job.vars
  pub points : All (λ (level : List ℤ). length level ≡ point_count (whole job.shape)) state.levels
