-- The flags of levels, in cells: eight for each variable, the current level first.
use Rattle.std.specs.Prelude.{ℕ, ◌+◌, ◌-◌, ◌*◌, ◌/◌, ◌%◌, ◌<◌, ◌≡◌, ◌==◌, nat_lt, Bool, false, List, length, replicate, slice_index_or, if◌then◌else◌}
use Rattle.cx_plan.specs.declared.flag.Flag.{Flag}
use Rattle.cx_plan.specs.declared.flag.Flag.TheVariants.{I, B, G, S}
use Rattle.cx_plan.specs.declared.variable.VarId.{VarId}
use Rattle.cx_plan.specs.Setups.{Setup}
use Rattle.cx_plan.specs.Lookups.{no_variable, is_scalar}
use Rattle.cx_plan.specs.Regions.{Flags, after_write, after_scalar}
use Rattle.cx_plan.specs.declared.item.Touch.{Touch}
use Rattle.cx_region_flags.specs.declared.flags.LevelFlags.{LevelFlags}

abbrev pub none_set : LevelFlags
none_set = record { interior = false; boundary = false; ghosts = false; scalar = false }

abbrev pub flag_of : LevelFlags → Flag → Bool
flag_of flags I = flags.interior
flag_of flags B = flags.boundary
flag_of flags G = flags.ghosts
flag_of flags S = flags.scalar

abbrev pub cell : List LevelFlags → ℕ → LevelFlags
cell cells k = slice_index_or cells k none_set

-- the cells of so many variables, with no flag set
abbrev pub none_set_of : ℕ → List LevelFlags
none_set_of n = replicate (8 * n) none_set

-- where a level stands
abbrev pub place : VarId → ℕ → ℕ
place v level = 8 * v.0 + level

-- the flags that are set
abbrev pub flags_in : List LevelFlags → Flags
flags_in cells v level f = flag_of (cell cells (place v level)) f

-- a level that has a cell
pub record IsKept (cells : List LevelFlags) (v : VarId) (level : ℕ) : Type 0 where
  pub few : level < 8
  pub there : place v level < length cells

-- the same cells have these flags now
pub record Holds (old new : List LevelFlags) (flags : Flags) : Type 0 where
  pub same_length : length new ≡ length old
  pub same_flags : (v : VarId) (level : ℕ) (f : Flag) → IsKept old v level
      → flags_in new v level f ≡ flags v level f

-- a flag of a level once it has been written
abbrev pub flag_after : Setup → Touch → Flag → Bool → Bool
flag_after setup w f was = if is_scalar setup w.var then after_scalar f was
    else after_write w.region f was

-- the flags of a cell after rotation
abbrev pub cell_after : Setup → List LevelFlags → ℕ → LevelFlags
cell_after setup cells k =
    if nat_lt 1 (slice_index_or setup.vars (k / 8) no_variable).levels
    then (if k % 8 == 0 then none_set else cell cells (k - 1))
    else cell cells k
