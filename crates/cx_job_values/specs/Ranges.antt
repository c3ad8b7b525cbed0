-- The ranges of the built-in parameters that are numbers, by their table.
use Rattle.std.specs.Prelude.{◌≡◌, ◌⊎◌, ℤ, pos, negsuc, ◌≤ℤ◌, ◌++◌, codes}
use Rattle.cx_values.specs.declared.values.Values.{Values}
use Rattle.cx_job_values.specs.declared.direction.Direction.{Direction}
use Rattle.cx_job_values.specs.Grids.{number_at, letter}

-- a number between two ends
abbrev pub IsBetween : ℤ → ℤ → ℤ → Type 0
IsBetween low high n = (low ≤ℤ n) × (n ≤ℤ high)

-- -1, or a number between two ends
abbrev pub IsUnsetOr : ℤ → ℤ → ℤ → Type 0
IsUnsetOr low high n = (n ≡ negsuc 0) ⊎ IsBetween low high n

-- the values that settings without a fault give
pub record AreInRange (v : Values) : Type 0 where
  pub itlast : IsBetween (pos 0) (pos 1000000) (number_at v (codes "Cactus::cctk_itlast"))
  pub points : (d : Direction)
      → IsBetween (pos 1) (pos 16777216) (number_at v (codes "driver::global_n" ++ letter d))
  pub all_points : IsUnsetOr (pos 1) (pos 16777216) (number_at v (codes "driver::global_nsize"))
  pub ghosts : (d : Direction)
      → IsBetween (pos 0) (pos 8) (number_at v (codes "driver::ghost_size_" ++ letter d))
  pub all_ghosts : IsUnsetOr (pos 0) (pos 8) (number_at v (codes "driver::ghost_size"))
  pub parts : (d : Direction)
      → IsBetween (pos 1) (pos 512) (number_at v (codes "driver::parts_" ++ letter d))
  pub lead : IsBetween (pos 0) (pos 64) (number_at v (codes "driver::lead"))
  pub while_limit : IsBetween (pos 1) (pos 1000000) (number_at v (codes "driver::while_limit"))
  pub out_every : IsBetween (negsuc 0) (pos 1000000) (number_at v (codes "IO::out_every"))
  pub checkpoint_every : IsBetween (negsuc 0) (pos 1000000)
      (number_at v (codes "IO::checkpoint_every"))
  pub keep : IsBetween (pos 1) (pos 7) (number_at v (codes "IO::checkpoint_keep"))
  pub weight_factor : IsBetween (pos 0) (pos 1048576)
      (number_at v (codes "driver::weight_factor"))
