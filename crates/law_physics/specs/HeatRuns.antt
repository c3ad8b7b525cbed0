-- Jobs whose items are all of the thorn HeatFlux: heat is kept in every line of the output.
use Rattle.std.specs.Prelude.{◌≡◌, ℕ, ℤ, List, [], ◌∷◌, All, codes}
use Rattle.cx_plan.specs.declared.variable.VarId.{VarId}
use Rattle.cx_plan.specs.declared.item.Region.TheVariants.{Everywhere, Interior, Boundary}
use Rattle.cx_plan.specs.declared.item.ItemKind.TheVariants.{Cell}
use Rattle.cx_plan.specs.declared.item.Item.{Item}
use Rattle.cx_plan.specs.Setups.{Setup}
use Rattle.cx_plan.specs.Steering.{item_at}
use Rattle.cx_plan.specs.Regions.{run_items}
use Rattle.cx_rule.specs.Routine.{Rule, rule_at}
use Rattle.cx_thorn_physics.specs.Flux.{heatflux_init_rule, heatflux_step_rule, heatflux_zero_rule}
use Rattle.law_physics.specs.Steps.{touch_of, Computes}
use Rattle.law_physics.specs.Constant.{IsFieldOf, IsScalarOf, SumsUp, IsConstant}

-- an item that starts the heat and its mask, from these parameters
pub record StartsHeat (rules : List Rule) (x : Item) (u mask : VarId)
    (given : List ℤ) : Type 0 where
  pub routine : rule_at rules x.routine ≡ heatflux_init_rule
  pub kind : x.kind ≡ Cell
  pub written : x.writes ≡ touch_of u Everywhere 0 ∷ touch_of mask Everywhere 0 ∷ []
  pub params : x.params ≡ given

-- one of the four items of the thorn
pub data IsHeatItem (rules : List Rule) (u mask total : VarId) (params : List ℤ)
    (x : Item) : Type 0 where
  Starts : StartsHeat rules x u mask params → IsHeatItem rules u mask total params x
  Steps : Computes rules x heatflux_step_rule
      (touch_of u Everywhere 1 ∷ touch_of mask Everywhere 1 ∷ []) u Interior
      → IsHeatItem rules u mask total params x
  Closes : Computes rules x heatflux_zero_rule [] u Boundary
      → IsHeatItem rules u mask total params x
  Sums : SumsUp x u total → IsHeatItem rules u mask total params x

-- Each item that is run is one of the thorn, in each iteration, whatever the schedule: in any order,
-- any number of times, in any bins, under any IF and WHILE. Where parameters are steered, those of
-- the start stay.
pub record IsHeatJob (setup : Setup) (rules : List Rule) (u mask total : VarId) : Type 0 where
  pub heat : IsFieldOf setup (codes "heatflux::u") u
  pub walls : IsFieldOf setup (codes "heatflux::mask") mask
  pub sum : IsScalarOf setup (codes "heatflux::total") total
  pub params : List ℤ
  pub items : All (λ k. (n : ℕ) → IsHeatItem rules u mask total params (item_at setup k n))
      (run_items setup)

-- all lines of the total have one value
abbrev pub HeatStays : Setup → List Rule → Type 0
HeatStays setup rules =
    (u mask total : VarId) → IsHeatJob setup rules u mask total → IsConstant setup rules total
