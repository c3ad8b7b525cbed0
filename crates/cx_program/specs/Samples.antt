-- The routines of the built-in thorns, in the order in which they are handed in.
use Rattle.std.specs.Prelude.{List, [], ◌∷◌}
use Rattle.cx_rule.specs.Routine.{Rule}
use Rattle.cx_rule.specs.declared.spec.Spec.{Spec}
use Rattle.cx_thorn_ca.specs.Automaton.{ca_init_rule, ca_step_rule, ca_zero_rule, ca_count_rule, ca_init_spec, ca_step_spec, ca_zero_spec, ca_count_spec}
use Rattle.cx_thorn_ca.specs.Life.{life_init_rule, life_step_rule, life_zero_rule, life_count_rule, life_init_spec, life_step_spec, life_zero_spec, life_count_spec}
use Rattle.cx_thorn_pde.specs.Control.{control_set_rule, control_spin_rule, control_set_spec, control_spin_spec}
use Rattle.cx_thorn_pde.specs.Heat.{diff_init_rule, diff_step_rule, diff_flat_rule, diff_scalar_rule, diff_sum_rule, diff_init_spec, diff_step_spec, diff_flat_spec, diff_scalar_spec, diff_sum_spec}
use Rattle.cx_thorn_pde.specs.Wave.{wave_init_rule, wave_init1_rule, wave_step_rule, wave_copy_rule, wave_flat_rule, wave_scalar_rule, wave_sum_rule, wave_init_spec, wave_init1_spec, wave_step_spec, wave_copy_spec, wave_flat_spec, wave_scalar_spec, wave_sum_spec}
use Rattle.cx_thorn_physics.specs.Flux.{heatflux_init_rule, heatflux_step_rule, heatflux_zero_rule, heatflux_sum_rule, heatflux_init_spec, heatflux_step_spec, heatflux_zero_spec, heatflux_sum_spec}
use Rattle.cx_thorn_physics.specs.Gas.{gas_init_rule, gas_step_rule, gas_zero_rule, gas_measure_rule, gas_sum_rule, gas_init_spec, gas_step_spec, gas_zero_spec, gas_measure_spec, gas_particles_spec, gas_total_x_spec, gas_total_y_spec}

-- what they compute at a point: those of ElemCA, Life2D, WaveInt, DiffInt and Control, and of
-- HeatFlux and LatticeGas
abbrev pub sample_rules : List Rule
sample_rules =
    ca_init_rule ∷ ca_step_rule ∷ ca_zero_rule ∷ ca_count_rule
    ∷ life_init_rule ∷ life_step_rule ∷ life_zero_rule ∷ life_count_rule
    ∷ wave_init_rule ∷ wave_init1_rule ∷ wave_step_rule ∷ wave_copy_rule ∷ wave_flat_rule
    ∷ wave_scalar_rule ∷ wave_sum_rule
    ∷ diff_init_rule ∷ diff_step_rule ∷ diff_flat_rule ∷ diff_scalar_rule ∷ diff_sum_rule
    ∷ control_set_rule ∷ control_spin_rule
    ∷ heatflux_init_rule ∷ heatflux_step_rule ∷ heatflux_zero_rule ∷ heatflux_sum_rule
    ∷ gas_init_rule ∷ gas_step_rule ∷ gas_zero_rule ∷ gas_measure_rule
    ∷ gas_sum_rule ∷ gas_sum_rule ∷ gas_sum_rule ∷ []

-- what they say of themselves
abbrev pub sample_specs : List Spec
sample_specs =
    ca_init_spec ∷ ca_step_spec ∷ ca_zero_spec ∷ ca_count_spec
    ∷ life_init_spec ∷ life_step_spec ∷ life_zero_spec ∷ life_count_spec
    ∷ wave_init_spec ∷ wave_init1_spec ∷ wave_step_spec ∷ wave_copy_spec ∷ wave_flat_spec
    ∷ wave_scalar_spec ∷ wave_sum_spec
    ∷ diff_init_spec ∷ diff_step_spec ∷ diff_flat_spec ∷ diff_scalar_spec ∷ diff_sum_spec
    ∷ control_set_spec ∷ control_spin_spec
    ∷ heatflux_init_spec ∷ heatflux_step_spec ∷ heatflux_zero_spec ∷ heatflux_sum_spec
    ∷ gas_init_spec ∷ gas_step_spec ∷ gas_zero_spec ∷ gas_measure_spec
    ∷ gas_particles_spec ∷ gas_total_x_spec ∷ gas_total_y_spec ∷ []
