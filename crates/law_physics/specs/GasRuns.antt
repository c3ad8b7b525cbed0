-- Jobs whose items are all of the thorn LatticeGas: particles and momenta are kept in every line of
-- the output.
use Rattle.std.specs.Prelude.{◌≡◌, ℕ, ℤ, List, [], ◌∷◌, All, codes}
use Rattle.cx_plan.specs.declared.variable.VarId.{VarId}
use Rattle.cx_plan.specs.declared.item.Region.TheVariants.{Everywhere, Interior, Boundary}
use Rattle.cx_plan.specs.declared.item.ItemKind.TheVariants.{Cell}
use Rattle.cx_plan.specs.declared.item.Item.{Item}
use Rattle.cx_plan.specs.Setups.{Setup}
use Rattle.cx_plan.specs.Steering.{item_at}
use Rattle.cx_plan.specs.Regions.{run_items}
use Rattle.cx_rule.specs.Routine.{Rule, rule_at}
use Rattle.cx_thorn_physics.specs.Gas.{gas_init_rule, gas_step_rule, gas_zero_rule, gas_measure_rule}
use Rattle.law_physics.specs.Steps.{touch_of, Computes}
use Rattle.law_physics.specs.Constant.{IsFieldOf, IsScalarOf, SumsUp, IsConstant}

-- the variables of a gas: its cells, what is measured of each, and the sums of these
pub record GasVars : Type 0 where
  pub cells : VarId
  pub number : VarId
  pub momentum_x : VarId
  pub momentum_y : VarId
  pub particles : VarId
  pub total_x : VarId
  pub total_y : VarId

-- an item that starts the cells, from these parameters
pub record StartsGas (rules : List Rule) (x : Item) (cells : VarId)
    (given : List ℤ) : Type 0 where
  pub routine : rule_at rules x.routine ≡ gas_init_rule
  pub kind : x.kind ≡ Cell
  pub written : x.writes ≡ touch_of cells Everywhere 0 ∷ []
  pub params : x.params ≡ given

-- an item that measures each cell
pub record Measures (rules : List Rule) (x : Item) (vars : GasVars) : Type 0 where
  pub routine : rule_at rules x.routine ≡ gas_measure_rule
  pub kind : x.kind ≡ Cell
  pub read : x.reads ≡ touch_of vars.cells Everywhere 0 ∷ []
  pub written : x.writes ≡ touch_of vars.number Everywhere 0
      ∷ touch_of vars.momentum_x Everywhere 0 ∷ touch_of vars.momentum_y Everywhere 0 ∷ []

-- one of the seven items of the thorn
pub data IsGasItem (rules : List Rule) (vars : GasVars) (params : List ℤ) (x : Item) : Type 0 where
  Starts : StartsGas rules x vars.cells params → IsGasItem rules vars params x
  Steps : Computes rules x gas_step_rule (touch_of vars.cells Everywhere 1 ∷ []) vars.cells Interior
      → IsGasItem rules vars params x
  Clears : Computes rules x gas_zero_rule [] vars.cells Boundary → IsGasItem rules vars params x
  Measured : Measures rules x vars → IsGasItem rules vars params x
  Counts : SumsUp x vars.number vars.particles → IsGasItem rules vars params x
  SumsX : SumsUp x vars.momentum_x vars.total_x → IsGasItem rules vars params x
  SumsY : SumsUp x vars.momentum_y vars.total_y → IsGasItem rules vars params x

-- Each item that is run is one of the thorn, in each iteration, whatever the schedule: in any order,
-- any number of times, in any bins, under any IF and WHILE. Where parameters are steered, those of
-- the start stay.
pub record IsGasJob (setup : Setup) (rules : List Rule) (vars : GasVars) : Type 0 where
  pub cells : IsFieldOf setup (codes "gas::cell") vars.cells
  pub number : IsFieldOf setup (codes "gas::number") vars.number
  pub momentum_x : IsFieldOf setup (codes "gas::momentum_x") vars.momentum_x
  pub momentum_y : IsFieldOf setup (codes "gas::momentum_y") vars.momentum_y
  pub particles : IsScalarOf setup (codes "gas::particles") vars.particles
  pub total_x : IsScalarOf setup (codes "gas::total_x") vars.total_x
  pub total_y : IsScalarOf setup (codes "gas::total_y") vars.total_y
  pub params : List ℤ
  pub items : All (λ k. (n : ℕ) → IsGasItem rules vars params (item_at setup k n)) (run_items setup)

-- all lines of the number of particles have one value, and so have those of both momenta
pub record GasStaysOf (setup : Setup) (rules : List Rule) (vars : GasVars) : Type 0 where
  pub particles : IsConstant setup rules vars.particles
  pub total_x : IsConstant setup rules vars.total_x
  pub total_y : IsConstant setup rules vars.total_y

abbrev pub GasStays : Setup → List Rule → Type 0
GasStays setup rules =
    (vars : GasVars) → IsGasJob setup rules vars → GasStaysOf setup rules vars
