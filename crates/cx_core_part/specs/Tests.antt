-- The scalar that an operation tests.
use Rattle.std.specs.Prelude.{ℤ, pos, ⊤}
use Rattle.cx_plan.specs.declared.variable.VarId.{VarId}
use Rattle.cx_flat.specs.declared.op.Op.{Op}
use Rattle.cx_flat.specs.declared.op.Op.TheVariants.{Test, Turn}
use Rattle.cx_field.specs.Patches.{PatchValue, IsScalar}

-- what is tested is a scalar
abbrev pub CanTest : Op → PatchValue → Type 0
CanTest (Test v path skip) p = IsScalar p v
CanTest (Turn v path skip) p = IsScalar p v
CanTest _ p = ⊤

-- its number; 0 where none is tested
abbrev pub tested_number : Op → (VarId → ℤ) → ℤ
tested_number (Test v path skip) scalars = scalars v
tested_number (Turn v path skip) scalars = scalars v
tested_number _ scalars = pos 0
