-- Variables by their full names.
use Rattle.std.specs.Prelude.{◌≡◌, ◌<◌, ℕ, List, length, codes}
use Rattle.cx_plan.specs.declared.variable.VarId.{VarId}
use Rattle.cx_plan.specs.Lookups.{variable}
use Rattle.cx_plan.specs.Setups.{Setup}

-- a variable of a job that has this full name
pub record IsNamed (setup : Setup) (name : List ℕ) (v : VarId) : Type 0 where
  pub var : v.0 < length setup.vars
  pub full : (variable setup v).full ≡ name

-- one of the three sums of a gas
pub data IsGasSum (setup : Setup) (v : VarId) : Type 0 where
  Particles : IsNamed setup (codes "gas::particles") v → IsGasSum setup v
  MomentumX : IsNamed setup (codes "gas::total_x") v → IsGasSum setup v
  MomentumY : IsNamed setup (codes "gas::total_y") v → IsGasSum setup v
