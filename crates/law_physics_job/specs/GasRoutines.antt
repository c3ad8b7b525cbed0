-- The routines of LatticeGas.
use Rattle.std.specs.Prelude.{◌≡◌, List, codes}
use Rattle.cx_rule.specs.declared.spec.Spec.{Spec}
use Rattle.cx_rule.specs.Routine.{Rule}
use Rattle.cx_thorn_physics.specs.Gas.{gas_init_rule, gas_step_rule, gas_zero_rule, gas_measure_rule, gas_init_spec, gas_step_spec, gas_zero_spec, gas_measure_spec, gas_particles_spec, gas_total_x_spec, gas_total_y_spec}
use Rattle.law_physics_job.specs.Routines.{EachOf}

-- one of the seven: what it computes, and what it says of itself
pub data IsGasRoutine (rule : Rule) (spec : Spec) : Type 0 where
  Init : rule ≡ gas_init_rule → spec ≡ gas_init_spec → IsGasRoutine rule spec
  Step : rule ≡ gas_step_rule → spec ≡ gas_step_spec → IsGasRoutine rule spec
  Zero : rule ≡ gas_zero_rule → spec ≡ gas_zero_spec → IsGasRoutine rule spec
  Measure : rule ≡ gas_measure_rule → spec ≡ gas_measure_spec → IsGasRoutine rule spec
  Particles : spec ≡ gas_particles_spec → IsGasRoutine rule spec
  TotalX : spec ≡ gas_total_x_spec → IsGasRoutine rule spec
  TotalY : spec ≡ gas_total_y_spec → IsGasRoutine rule spec

-- whatever is handed in for LatticeGas is one of them
abbrev pub HandsInGas : List Rule → List Spec → Type 0
HandsInGas = EachOf (codes "LatticeGas") IsGasRoutine
