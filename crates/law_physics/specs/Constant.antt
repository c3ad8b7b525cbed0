-- Sums that never change in a job's output.
use Rattle.std.specs.Prelude.{ℕ, ◌≡◌, ◌<◌, true, ℤ, List, [], ◌∷◌, length}
use Rattle.std.specs.List.{flat_map}
use Rattle.cx_plan.specs.declared.variable.VarId.{VarId}
use Rattle.cx_plan.specs.declared.item.Item.{Item}
use Rattle.cx_plan.specs.declared.item.ItemKind.TheVariants.{Sum}
use Rattle.cx_plan.specs.declared.item.Region.TheVariants.{Everywhere}
use Rattle.cx_plan.specs.Setups.{Setup}
use Rattle.cx_plan.specs.Lookups.{variable, is_scalar, levels_of}
use Rattle.cx_rule.specs.Routine.{Rule}
use Rattle.cx_ascii.specs.Output.{line}
use Rattle.cx_model.specs.Runs.{output}
use Rattle.law_physics.specs.Steps.{touch_of, IsField}

-- a scalar's output is lines of some iterations, all with one value
pub record IsConstant (setup : Setup) (rules : List Rule) (v : VarId) : Type 0 where
  pub value : ℤ
  pub iterations : List ℕ
  pub lines : output setup rules v
      ≡ flat_map (λ n. line (variable setup v).full n value) iterations

-- a grid variable, and a scalar, that is stored under a name
pub record IsFieldOf (setup : Setup) (name : List ℕ) (v : VarId) : Type 0 where
  pub field : IsField setup v
  pub full : (variable setup v).full ≡ name

pub record IsScalarOf (setup : Setup) (name : List ℕ) (v : VarId) : Type 0 where
  pub var : v.0 < length setup.vars
  pub stored : 0 < levels_of setup v
  pub scalar : is_scalar setup v ≡ true
  pub full : (variable setup v).full ≡ name

-- an item that gives a scalar the sum of a grid variable
pub record SumsUp (x : Item) (from to : VarId) : Type 0 where
  pub kind : x.kind ≡ Sum
  pub read : x.reads ≡ touch_of from Everywhere 0 ∷ []
  pub written : x.writes ≡ touch_of to Everywhere 0 ∷ []
