-- The routines of HeatFlux.
use Rattle.std.specs.Prelude.{◌≡◌, List, codes}
use Rattle.cx_rule.specs.declared.spec.Spec.{Spec}
use Rattle.cx_rule.specs.Routine.{Rule}
use Rattle.cx_thorn_physics.specs.Flux.{heatflux_init_rule, heatflux_step_rule, heatflux_zero_rule, heatflux_init_spec, heatflux_step_spec, heatflux_zero_spec, heatflux_sum_spec}
use Rattle.law_physics_job.specs.Routines.{EachOf}

-- one of the four: what it computes, and what it says of itself
pub data IsHeatRoutine (rule : Rule) (spec : Spec) : Type 0 where
  Init : rule ≡ heatflux_init_rule → spec ≡ heatflux_init_spec → IsHeatRoutine rule spec
  Step : rule ≡ heatflux_step_rule → spec ≡ heatflux_step_spec → IsHeatRoutine rule spec
  Zero : rule ≡ heatflux_zero_rule → spec ≡ heatflux_zero_spec → IsHeatRoutine rule spec
  Total : spec ≡ heatflux_sum_spec → IsHeatRoutine rule spec

-- whatever is handed in for HeatFlux is one of them
abbrev pub HandsInHeat : List Rule → List Spec → Type 0
HandsInHeat = EachOf (codes "HeatFlux") IsHeatRoutine
