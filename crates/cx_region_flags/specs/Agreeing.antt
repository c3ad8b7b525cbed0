-- Cells that play the flags of a job's stored levels.
use Rattle.std.specs.Prelude.{ℕ, ◌≡◌, ◌*◌, ◌<◌, List, length, All}
use Rattle.cx_plan.specs.declared.flag.Flag.{Flag}
use Rattle.cx_plan.specs.declared.variable.VarId.{VarId}
use Rattle.cx_plan.specs.declared.job.Job.{Job}
use Rattle.cx_plan.specs.Setups.{setup_of}
use Rattle.cx_plan.specs.Regions.{Flags, Act, Turns, Syncs, Tests, Rotates, Outputs, leaves}
use Rattle.cx_plan.specs.Whole.{IsStored, IsStoredGrid, IsStoredScalar}
use Rattle.cx_region_flags.specs.declared.flags.LevelFlags.{LevelFlags}
use Rattle.cx_region_flags.specs.Cells.{flags_in, Holds}

pub record Agrees (job : Job) (cells : List LevelFlags) (flags : Flags) : Type 0 where
  pub size : length cells ≡ 8 * length job.vars
  pub same : (v : VarId) (level : ℕ) (f : Flag) → IsStored job v level
      → flags_in cells v level f ≡ flags v level f

-- a step of a path of the job
abbrev pub IsAct : Job → Act → Type 0
IsAct job (Turns k) = k < length job.items
IsAct job (Syncs vars path) = All (IsStoredGrid job) vars
IsAct job (Tests v path) = IsStoredScalar job v
IsAct job Rotates = Unit {0}
IsAct job Outputs = Unit {0}

-- the cells have the flags that a step leaves of them
abbrev pub Leaves : Job → Act → List LevelFlags → List LevelFlags → Type 0
Leaves job act old new = Holds old new (leaves (setup_of job) act (flags_in old))
