-- Particles and their momenta are kept.
use Rattle.std.specs.Prelude.{ℕ, ◌≡◌, ◌<◌, true, List, [], ◌∷◌, Some}
use Rattle.cx_grid.specs.declared.shapes.Shape.{Shape}
use Rattle.cx_grid.specs.Grid.{is_periodic}
use Rattle.cx_plan.specs.declared.variable.VarId.{VarId}
use Rattle.cx_plan.specs.declared.item.Region.TheVariants.{Everywhere, Interior}
use Rattle.cx_plan.specs.declared.item.Item.{Item}
use Rattle.cx_plan.specs.Setups.{Setup}
use Rattle.cx_rule.specs.Routine.{Rule}
use Rattle.cx_model.specs.States.{State, IsState}
use Rattle.cx_model.specs.Turns.{turn}
use Rattle.cx_thorn_physics.specs.Gas.{gas_step_rule, number_of, momentum_x_of, momentum_y_of}
use Rattle.law_physics.specs.Steps.{touch_of, IsField, Computes, measured}

-- a grid that is periodic in each of its directions
abbrev pub IsPeriodic : Shape → Type 0
IsPeriodic s = (d : ℕ) → d < s.dims → is_periodic s d ≡ true

-- an item that does a step of a gas with these cells
pub record IsGasStep (setup : Setup) (rules : List Rule) (x : Item) (cells : VarId) : Type 0 where
  pub item : Computes rules x gas_step_rule (touch_of cells Everywhere 1 ∷ []) cells Interior
  pub stored : IsField setup cells

-- the particles over the whole grid, and both momenta, are the same
pub record AreKept (before after : State) (cells : VarId) : Type 0 where
  pub number : measured number_of after cells ≡ measured number_of before cells
  pub x : measured momentum_x_of after cells ≡ measured momentum_x_of before cells
  pub y : measured momentum_y_of after cells ≡ measured momentum_y_of before cells

-- a step of the gas leaves them as they were
abbrev pub ParticlesAreKept : Setup → List Rule → Type 0
ParticlesAreKept setup rules =
    (x : Item) (cells : VarId) (before after : State) (iteration : ℕ)
    → IsGasStep setup rules x cells → IsState setup before
    → turn setup rules x before iteration ≡ Some after → AreKept before after cells
