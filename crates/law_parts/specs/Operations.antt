-- What the operations of a job name: it is there, and it fits the operation.
use Rattle.std.specs.Prelude.{ℕ, ◌<◌, ◌≡◌, Bool, true, false, List, [], ◌∷◌, length}
use Rattle.cx_plan.specs.declared.variable.VarId.{VarId}
use Rattle.cx_plan.specs.declared.item.ItemKind.{ItemKind}
use Rattle.cx_plan.specs.declared.item.ItemKind.TheVariants.{Cell, Scalar, Sum, Least, Greatest, Count}
use Rattle.cx_plan.specs.Setups.{Setup}
use Rattle.cx_plan.specs.Lookups.{item, is_scalar, levels_of}
use Rattle.cx_plan.specs.Regions.{has_shape}
use Rattle.cx_flat.specs.declared.op.Op.{Op}
use Rattle.cx_flat.specs.declared.op.Op.TheVariants.{Sweep, Apply, Give, Join, Post, Take, Test, Open, Turn, Again, Rotate, Due, Written, Skip, Next, Piece, Save, Halt}
use Rattle.cx_rule.specs.Faces.{variable_at}

abbrev pub is_reduction : ItemKind → Bool
is_reduction Cell = false
is_reduction Scalar = false
is_reduction Sum = true
is_reduction Least = true
is_reduction Greatest = true
is_reduction Count = true

-- an item that has its shape
abbrev pub IsRunItem : Setup → ℕ → Type 0
IsRunItem setup k = (k < length setup.items) × (has_shape setup (item setup k) ≡ true)

-- a variable with a current level
abbrev pub IsCurrent : Setup → VarId → Type 0
IsCurrent setup v = (v.0 < length setup.vars) × (0 < levels_of setup v)

-- a direction of the grid, and grid variables with a current level
pub record IsExchange (setup : Setup) (d : ℕ) (vars : List VarId) : Type 0 where
  pub direction : d < setup.shape.dims
  pub current : (i : ℕ) → i < length vars → IsCurrent setup (variable_at vars i)
  pub grid : (i : ℕ) → i < length vars → is_scalar setup (variable_at vars i) ≡ false

abbrev pub NamesWell : Setup → Op → Type 0
NamesWell setup (Sweep k) = IsRunItem setup k × ((item setup k).kind ≡ Cell)
NamesWell setup (Apply k) = IsRunItem setup k × ((item setup k).kind ≡ Scalar)
NamesWell setup (Give k) = IsRunItem setup k × (is_reduction (item setup k).kind ≡ true)
NamesWell setup (Join k) = IsRunItem setup k × (is_reduction (item setup k).kind ≡ true)
NamesWell setup (Post d vars) = IsExchange setup d vars
NamesWell setup (Take d vars path) = IsExchange setup d vars
NamesWell setup (Test v path skip) = is_scalar setup v ≡ true
NamesWell setup Open = Unit {0}
NamesWell setup (Turn v path skip) = is_scalar setup v ≡ true
NamesWell setup (Again back) = Unit {0}
NamesWell setup Rotate = Unit {0}
NamesWell setup (Due skip) = Unit {0}
NamesWell setup (Written skip) = Unit {0}
NamesWell setup (Skip skip) = Unit {0}
NamesWell setup (Next back) = Unit {0}
NamesWell setup (Piece v) = IsCurrent setup v
NamesWell setup Save = Unit {0}
NamesWell setup Halt = Unit {0}

abbrev pub AllNameWell : Setup → List Op → Type 0
AllNameWell setup [] = Unit {0}
AllNameWell setup (o ∷ os) = NamesWell setup o × AllNameWell setup os
