-- The whole states of a job's undivided run. The numbers themselves, and how they are read and
-- written, are those over any box.
use Rattle.std.specs.Prelude.{ℕ, ◌≡◌, ◌<◌, ℤ, pos, List, [], map, length, replicate, if◌then◌else◌, slice_index_or}
use Rattle.cx_grid.specs.Boxes.{point_count}
use Rattle.cx_grid.specs.Grid.{whole}
use Rattle.cx_plan.specs.declared.variable.VarId.{VarId}
use Rattle.cx_plan.specs.declared.variable.VarInfo.{VarInfo}
use Rattle.cx_plan.specs.Setups.{Setup}
use Rattle.cx_plan.specs.Lookups.{variable, levels_of}
pub use Rattle.cx_rule.specs.States.{State, level_of, scalar_of, with_level, with_scalar, rotated_levels, rotate}

-- how many numbers a level of a variable has
abbrev pub number_count : Setup → VarInfo → ℕ
number_count setup v = if v.scalar then 1 else point_count (whole setup.shape)

-- 0 everywhere
abbrev pub zeros : Setup → VarInfo → List (List ℤ)
zeros setup v = replicate v.levels (replicate (number_count setup v) (pos 0))

-- the state in which the undivided run begins
abbrev pub start : Setup → State
start setup = map (zeros setup) setup.vars

-- a state in which each variable has its stored levels, and each level its numbers
pub record IsState (setup : Setup) (state : State) : Type 0 where
  pub vars : length state ≡ length setup.vars
  pub levels : (v : VarId) → v.0 < length setup.vars
      → length (slice_index_or state v.0 []) ≡ levels_of setup v
  pub numbers : (v : VarId) (level : ℕ) → v.0 < length setup.vars → level < levels_of setup v
      → length (level_of state v level) ≡ number_count setup (variable setup v)
