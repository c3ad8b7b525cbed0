-- The array that is handed over has the routines of the built-in thorns, in order.
use Rattle.std.proofs.Common.{[], ◌∷◌, refl}
use Rattle.cx_thorn_ca.specs.Automaton.{ca_init_rule, ca_step_rule, ca_zero_rule, ca_count_rule, ca_init_spec, ca_step_spec, ca_zero_spec, ca_count_spec}
use Rattle.cx_thorn_ca.specs.Life.{life_init_rule, life_step_rule, life_zero_rule, life_count_rule, life_init_spec, life_step_spec, life_zero_spec, life_count_spec}
use Rattle.cx_thorn_pde.specs.Control.{control_set_rule, control_spin_rule, control_set_spec, control_spin_spec}
use Rattle.cx_thorn_pde.specs.Heat.{diff_init_rule, diff_step_rule, diff_flat_rule, diff_scalar_rule, diff_sum_rule, diff_init_spec, diff_step_spec, diff_flat_spec, diff_scalar_spec, diff_sum_spec}
use Rattle.cx_thorn_pde.specs.Wave.{wave_init_rule, wave_init1_rule, wave_step_rule, wave_copy_rule, wave_flat_rule, wave_scalar_rule, wave_sum_rule, wave_init_spec, wave_init1_spec, wave_step_spec, wave_copy_spec, wave_flat_spec, wave_scalar_spec, wave_sum_spec}
use Rattle.cx_thorn_physics.specs.Flux.{heatflux_init_rule, heatflux_step_rule, heatflux_zero_rule, heatflux_sum_rule, heatflux_init_spec, heatflux_step_spec, heatflux_zero_spec, heatflux_sum_spec}
use Rattle.cx_thorn_physics.specs.Gas.{gas_init_rule, gas_step_rule, gas_zero_rule, gas_measure_rule, gas_sum_rule, gas_init_spec, gas_step_spec, gas_zero_spec, gas_measure_spec, gas_particles_spec, gas_total_x_spec, gas_total_y_spec}
use Rattle.cx_program.specs.contracts.routines.answer_with.{dyn-1-ghosts}
use Rattle.cx_program.proofs.routines.answer.OwnLists.{own-1, lawful-own-1}
use Rattle.cx_program.specs.Samples.{sample_rules, sample_specs}
use Rattle.cx_program.proofs.Handed.{Handed, none_yet, put}
use Rattle.cx_program.proofs.routines.answer.Given.{Over}
use Rattle.cx_program.proofs.routines.answer.Goals as goal

handed : (g : Over) (c : goal.After-answer_with-arg-7-1 g)
    → Handed (c.into_dyn_box.result ∷ c.into_dyn_box-2.result ∷ c.into_dyn_box-3.result
    ∷ c.into_dyn_box-4.result ∷ c.into_dyn_box-5.result ∷ c.into_dyn_box-6.result
    ∷ c.into_dyn_box-7.result ∷ c.into_dyn_box-8.result ∷ c.into_dyn_box-9.result
    ∷ c.into_dyn_box-10.result ∷ c.into_dyn_box-11.result ∷ c.into_dyn_box-12.result
    ∷ c.into_dyn_box-13.result ∷ c.into_dyn_box-14.result ∷ c.into_dyn_box-15.result
    ∷ c.into_dyn_box-16.result ∷ c.into_dyn_box-17.result ∷ c.into_dyn_box-18.result
    ∷ c.into_dyn_box-19.result ∷ c.into_dyn_box-20.result ∷ c.into_dyn_box-21.result
    ∷ c.into_dyn_box-22.result ∷ c.into_dyn_box-23.result ∷ c.into_dyn_box-24.result
    ∷ c.into_dyn_box-25.result ∷ c.into_dyn_box-26.result ∷ c.into_dyn_box-27.result
    ∷ c.into_dyn_box-28.result ∷ c.into_dyn_box-29.result ∷ c.into_dyn_box-30.result
    ∷ c.into_dyn_box-31.result ∷ c.into_dyn_box-32.result ∷ c.into_dyn_box-33.result ∷ [])
    (λ z.
    ((dyn-1-ghosts g.row.H g.row.D g.row.W g.row.T g.row.O g.H.Shelf g.H.Shelf-dict g.D.Disk
    g.D.Disk-dict g.W.Wire g.W.Wire-dict g.T.Turns g.T.Turns-dict g.O.Sink g.O.Sink-dict
    (own-1, lawful-own-1)).0.entry z.vtable).1.rule z.value)
    (λ z.
    ((dyn-1-ghosts g.row.H g.row.D g.row.W g.row.T g.row.O g.H.Shelf g.H.Shelf-dict g.D.Disk
    g.D.Disk-dict g.W.Wire g.W.Wire-dict g.T.Turns g.T.Turns-dict g.O.Sink g.O.Sink-dict
    (own-1, lawful-own-1)).0.entry z.vtable).1.spec_of z.value) sample_rules sample_specs
handed g c =
    let one = put c.into_dyn_box.result
    (λ t h.
    ((dyn-1-ghosts g.row.H g.row.D g.row.W g.row.T g.row.O g.H.Shelf g.H.Shelf-dict g.D.Disk
    g.D.Disk-dict g.W.Wire g.W.Wire-dict g.T.Turns g.T.Turns-dict g.O.Sink g.O.Sink-dict
    (own-1, lawful-own-1)).0.entry t).1.rule h)
    (λ t h.
    ((dyn-1-ghosts g.row.H g.row.D g.row.W g.row.T g.row.O g.H.Shelf g.H.Shelf-dict g.D.Disk
    g.D.Disk-dict g.W.Wire g.W.Wire-dict g.T.Turns g.T.Turns-dict g.O.Sink g.O.Sink-dict
    (own-1, lawful-own-1)).0.entry t).1.spec_of h) (λ z. z.vtable) (λ z. z.value) in
    (one _ _ _ _ _ ca_init_rule ca_init_spec
    c.into_dyn_box.ensures.0 (λ h. refl) (λ h. refl)
    (one _ _ _ _ _ ca_step_rule ca_step_spec
    c.into_dyn_box-2.ensures.0 (λ h. refl) (λ h. refl)
    (one _ _ _ _ _ ca_zero_rule ca_zero_spec
    c.into_dyn_box-3.ensures.0 (λ h. refl) (λ h. refl)
    (one _ _ _ _ _ ca_count_rule ca_count_spec
    c.into_dyn_box-4.ensures.0 (λ h. refl) (λ h. refl)
    (one _ _ _ _ _ life_init_rule life_init_spec
    c.into_dyn_box-5.ensures.0 (λ h. refl) (λ h. refl)
    (one _ _ _ _ _ life_step_rule life_step_spec
    c.into_dyn_box-6.ensures.0 (λ h. refl) (λ h. refl)
    (one _ _ _ _ _ life_zero_rule life_zero_spec
    c.into_dyn_box-7.ensures.0 (λ h. refl) (λ h. refl)
    (one _ _ _ _ _ life_count_rule life_count_spec
    c.into_dyn_box-8.ensures.0 (λ h. refl) (λ h. refl)
    (one _ _ _ _ _ wave_init_rule wave_init_spec
    c.into_dyn_box-9.ensures.0 (λ h. refl) (λ h. refl)
    (one _ _ _ _ _ wave_init1_rule wave_init1_spec
    c.into_dyn_box-10.ensures.0 (λ h. refl) (λ h. refl)
    (one _ _ _ _ _ wave_step_rule wave_step_spec
    c.into_dyn_box-11.ensures.0 (λ h. refl) (λ h. refl)
    (one _ _ _ _ _ wave_copy_rule wave_copy_spec
    c.into_dyn_box-12.ensures.0 (λ h. refl) (λ h. refl)
    (one _ _ _ _ _ wave_flat_rule wave_flat_spec
    c.into_dyn_box-13.ensures.0 (λ h. refl) (λ h. refl)
    (one _ _ _ _ _ wave_scalar_rule wave_scalar_spec
    c.into_dyn_box-14.ensures.0 (λ h. refl) (λ h. refl)
    (one _ _ _ _ _ wave_sum_rule wave_sum_spec
    c.into_dyn_box-15.ensures.0 (λ h. refl) (λ h. refl)
    (one _ _ _ _ _ diff_init_rule diff_init_spec
    c.into_dyn_box-16.ensures.0 (λ h. refl) (λ h. refl)
    (one _ _ _ _ _ diff_step_rule diff_step_spec
    c.into_dyn_box-17.ensures.0 (λ h. refl) (λ h. refl)
    (one _ _ _ _ _ diff_flat_rule diff_flat_spec
    c.into_dyn_box-18.ensures.0 (λ h. refl) (λ h. refl)
    (one _ _ _ _ _ diff_scalar_rule diff_scalar_spec
    c.into_dyn_box-19.ensures.0 (λ h. refl) (λ h. refl)
    (one _ _ _ _ _ diff_sum_rule diff_sum_spec
    c.into_dyn_box-20.ensures.0 (λ h. refl) (λ h. refl)
    (one _ _ _ _ _ control_set_rule control_set_spec
    c.into_dyn_box-21.ensures.0 (λ h. refl) (λ h. refl)
    (one _ _ _ _ _ control_spin_rule control_spin_spec
    c.into_dyn_box-22.ensures.0 (λ h. refl) (λ h. refl)
    (one _ _ _ _ _ heatflux_init_rule heatflux_init_spec
    c.into_dyn_box-23.ensures.0 (λ h. refl) (λ h. refl)
    (one _ _ _ _ _ heatflux_step_rule heatflux_step_spec
    c.into_dyn_box-24.ensures.0 (λ h. refl) (λ h. refl)
    (one _ _ _ _ _ heatflux_zero_rule heatflux_zero_spec
    c.into_dyn_box-25.ensures.0 (λ h. refl) (λ h. refl)
    (one _ _ _ _ _ heatflux_sum_rule heatflux_sum_spec
    c.into_dyn_box-26.ensures.0 (λ h. refl) (λ h. refl)
    (one _ _ _ _ _ gas_init_rule gas_init_spec
    c.into_dyn_box-27.ensures.0 (λ h. refl) (λ h. refl)
    (one _ _ _ _ _ gas_step_rule gas_step_spec
    c.into_dyn_box-28.ensures.0 (λ h. refl) (λ h. refl)
    (one _ _ _ _ _ gas_zero_rule gas_zero_spec
    c.into_dyn_box-29.ensures.0 (λ h. refl) (λ h. refl)
    (one _ _ _ _ _ gas_measure_rule gas_measure_spec
    c.into_dyn_box-30.ensures.0 (λ h. refl) (λ h. refl)
    (one _ _ _ _ _ gas_sum_rule gas_particles_spec
    c.into_dyn_box-31.ensures.0 (λ h. refl) (λ h. refl)
    (one _ _ _ _ _ gas_sum_rule gas_total_x_spec
    c.into_dyn_box-32.ensures.0 (λ h. refl) (λ h. refl)
    (one _ _ _ _ _ gas_sum_rule gas_total_y_spec
    c.into_dyn_box-33.ensures.0 (λ h. refl) (λ h. refl)
    (none_yet _ _))))))))))))))))))))))))))))))))))

pub answer_with-requires-clause-rules : goal.answer_with-requires-clause-rules
answer_with-requires-clause-rules g c = (handed g c).rules_are

pub answer_with-requires-clause-specs : goal.answer_with-requires-clause-specs
answer_with-requires-clause-specs g c = (handed g c).specs_are
