-- Heat is kept.
use Rattle.std.specs.Prelude.{ℕ, ◌≡◌, true, pos, List, [], ◌∷◌, Some}
use Rattle.cx_grid.specs.declared.boxes.Point.{Point}
use Rattle.cx_grid.specs.Boxes.{IsIn}
use Rattle.cx_grid.specs.Grid.{whole, is_boundary}
use Rattle.cx_plan.specs.declared.variable.VarId.{VarId}
use Rattle.cx_plan.specs.declared.item.Region.TheVariants.{Everywhere, Interior}
use Rattle.cx_plan.specs.declared.item.Item.{Item}
use Rattle.cx_plan.specs.Setups.{Setup}
use Rattle.cx_rule.specs.Routine.{Rule}
use Rattle.cx_model.specs.States.{State, IsState}
use Rattle.cx_model.specs.Turns.{values_of, turn}
use Rattle.cx_thorn_physics.specs.Flux.{heatflux_step_rule}
use Rattle.law_physics.specs.Steps.{touch_of, IsField, Computes, sum_of}

-- an item that does a step of the heat u, with this mask
pub record IsHeatStep (setup : Setup) (rules : List Rule) (x : Item) (u mask : VarId) : Type 0 where
  pub item : Computes rules x heatflux_step_rule
      (touch_of u Everywhere 1 ∷ touch_of mask Everywhere 1 ∷ []) u Interior
  pub heat : IsField setup u

-- no heat passes where the grid ends: the mask is 0 in the boundary. A grid that is periodic in
-- each direction has none
abbrev pub IsClosed : Setup → State → VarId → Type 0
IsClosed setup state mask =
    (p : Point) → IsIn (whole setup.shape) p → is_boundary setup.shape p ≡ true
    → values_of setup state mask 0 p ≡ pos 0

-- a step of the heat, if it has no overflow, leaves the sum over the whole grid as it was
abbrev pub HeatIsKept : Setup → List Rule → Type 0
HeatIsKept setup rules =
    (x : Item) (u mask : VarId) (before after : State) (iteration : ℕ)
    → IsHeatStep setup rules x u mask → IsState setup before → IsClosed setup before mask
    → turn setup rules x before iteration ≡ Some after
    → sum_of after u ≡ sum_of before u
