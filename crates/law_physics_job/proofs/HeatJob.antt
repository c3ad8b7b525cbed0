-- A job of HeatFlux, as it is shipped, is a job of heat.
use Rattle.std.proofs.Common.{◌≡◌, refl, ap, ◌∙◌, ℕ, ◌<◌, ltb-true, ℤ, List, [], ◌∷◌, get_or, Some, codes}
use Rattle.std.specs.Option.{unwrap_or}
use Rattle.cx_plan.specs.Lookups.{item}
use Rattle.cx_plan.specs.Regions.{run_items, HasShapes}
use Rattle.cx_plan.specs.Setups.{Setup, setup_of}
use Rattle.cx_plan.specs.Steering.{item_at}
use Rattle.cx_plan.specs.declared.item.Item.{Item}
use Rattle.cx_plan.specs.declared.item.Region.TheVariants.{Everywhere, Interior, Boundary}
use Rattle.cx_plan.specs.declared.item.Touch.{Touch}
use Rattle.cx_plan.specs.declared.job.Job.{Job}
use Rattle.cx_plan.specs.declared.variable.VarId.{VarId}
use Rattle.cx_plan.specs.declared.variable.VarInfo.{VarInfo}
use Rattle.cx_param.specs.declared.declarations.ParamDecl.{ParamDecl}
use Rattle.cx_conf.specs.declared.configuration.Configuration.{Configuration}
use Rattle.cx_bind.specs.Selecting.{Place}
use Rattle.cx_bind.specs.declared.thorns.Thorn.{Thorn}
use Rattle.cx_rule.specs.Routine.{Rule, rule_at}
use Rattle.cx_rule.specs.declared.spec.Spec.{Spec}
use Rattle.cx_rule.specs.declared.spec.Want.{Want}
use Rattle.cx_job_items.specs.Matching.{touches_of, numbers_of}
use Rattle.cx_job_values.specs.Stored.{stored_infos}
use Rattle.cx_job.specs.JobLimits.{run_count}
use Rattle.cx_thorn_physics.specs.Flux.{heatflux_init_rule, heatflux_step_rule, heatflux_zero_rule, heatflux_init_spec, heatflux_step_spec, heatflux_zero_spec, heatflux_sum_spec}
use Rattle.law_physics.specs.Steps.{touch_of}
use Rattle.law_physics.specs.HeatRuns.{IsHeatItem, Starts, Steps, Closes, Sums, IsHeatJob}
use Rattle.law_physics_job.specs.HeatRoutines.{IsHeatRoutine, Init, Step, Zero, Total, HandsInHeat}
use Rattle.law_physics_job.proofs.Fields.{is_field_of, is_scalar_of}
use Rattle.law_physics_job.proofs.Matched.{world_with, HasSpec, IsBy, is_by, params_are, rule_is, run_has_spec, is_run}
use Rattle.law_physics_job.proofs.Params.{keeps}
use Rattle.law_physics_job.proofs.Shipped.{IsOfThorn}
use Rattle.law_physics_job.proofs.Trees.{thorn_of, heat_tree, heat_slots, heat_storage}

-- the variables by their numbers
abbrev pub u : VarId
u = record { 0 = 0 }

abbrev pub mask : VarId
mask = record { 0 = 1 }

abbrev pub total : VarId
total = record { 0 = 2 }

abbrev heat_vars : Place → List ParamDecl → Configuration → List VarInfo
heat_vars place ps conf = stored_infos (thorn_of place heat_tree ps conf ∷ []) heat_storage

module _ (rules : List Rule) (specs : List Spec) (hands : HandsInHeat rules specs) (job : Job)
    (h : IsOfThorn (codes "HeatFlux") heat_tree heat_slots heat_storage specs job)
    (shapes : HasShapes (setup_of job)) where
  abbrev setup : Setup
  setup = setup_of job

  abbrev t : Thorn
  t = thorn_of h.place heat_tree h.params h.conf

  abbrev given : List ℤ
  given = unwrap_or (numbers_of h.values heatflux_init_spec.params) []

  abbrev Has : Item → Type 0
  Has y = HasSpec t (codes "HeatFlux") heat_storage specs h.values y

  vars_are : setup.vars ≡ heat_vars h.place h.params h.conf
  vars_are = ap (λ (j : Job). j.vars) h.made.is ∙ ap (stored_infos (t ∷ [])) h.storage_is

  -- ---- items

  module _ (k : ℕ) (below : k < run_count h.made.ordered.plan) (y : Has (item setup k)) where
    abbrev Mean : List Want → List Touch → Type 0
    Mean wants ts = touches_of (world_with t heat_storage y.sight) (Some 0) wants ≡ Some ts

    by_spec : (spec : Spec) (reads writes : List Touch) → y.spec ≡ spec → Mean spec.reads reads
        → Mean spec.writes writes → IsBy specs spec reads writes (item setup k)
    by_spec = is_by t (codes "HeatFlux") heat_storage specs h.values (item setup k) y

    with_rule : (rule : Rule) → rule_at rules y.number ≡ rule
        → rule_at rules (item setup k).routine ≡ rule
    with_rule = rule_is t (codes "HeatFlux") heat_storage specs h.values (item setup k) y rules

    starts : rule_at rules y.number ≡ heatflux_init_rule → y.spec ≡ heatflux_init_spec → (n : ℕ)
        → IsHeatItem rules u mask total given (item_at setup k n)
    starts rule is n =
        let by = by_spec heatflux_init_spec []
        (touch_of u Everywhere 0 ∷ touch_of mask Everywhere 0 ∷ []) is refl refl in
        Starts (record {
          routine = with_rule heatflux_init_rule rule;
          kind = by.kind;
          written = by.written;
          params =
              keeps specs t (h.schedule ∷ []) h.values job h.made heat_slots h.quiet k below
              heatflux_init_spec by.object refl n
              ∙ params_are t (codes "HeatFlux") heat_storage specs h.values (item setup k) y
              heatflux_init_spec is;
        })

    steps_on : rule_at rules y.number ≡ heatflux_step_rule → y.spec ≡ heatflux_step_spec → (n : ℕ)
        → IsHeatItem rules u mask total given (item_at setup k n)
    steps_on rule is n =
        let by = by_spec heatflux_step_spec
        (touch_of u Everywhere 1 ∷ touch_of mask Everywhere 1 ∷ []) (touch_of u Interior 0 ∷ [])
        is refl refl in
        Steps (record {
          routine = with_rule heatflux_step_rule rule;
          kind = by.kind;
          read = by.read;
          written = by.written;
        })

    closes : rule_at rules y.number ≡ heatflux_zero_rule → y.spec ≡ heatflux_zero_spec → (n : ℕ)
        → IsHeatItem rules u mask total given (item_at setup k n)
    closes rule is n =
        let by = by_spec heatflux_zero_spec [] (touch_of u Boundary 0 ∷ []) is refl refl in
        Closes (record {
          routine = with_rule heatflux_zero_rule rule;
          kind = by.kind;
          read = by.read;
          written = by.written;
        })

    sums : y.spec ≡ heatflux_sum_spec → (n : ℕ)
        → IsHeatItem rules u mask total given (item_at setup k n)
    sums is n =
        let by = by_spec heatflux_sum_spec (touch_of u Everywhere 0 ∷ [])
        (touch_of total Everywhere 0 ∷ []) is refl refl in
        Sums (record { kind = by.kind; read = by.read; written = by.written })

    by_routine : IsHeatRoutine (rule_at rules y.number) y.spec → (n : ℕ)
        → IsHeatItem rules u mask total given (item_at setup k n)
    by_routine (Init rule is) n = starts rule is n
    by_routine (Step rule is) n = steps_on rule is n
    by_routine (Zero rule is) n = closes rule is n
    by_routine (Total is) n = sums is n

    is_heat_item : (n : ℕ) → IsHeatItem rules u mask total given (item_at setup k n)
    is_heat_item = by_routine (hands y.number y.spec y.object y.its)

  -- ---- the job

  one : 0 < 1
  one = ltb-true 0 1 refl

  pub is_heat_job : IsHeatJob setup rules u mask total
  is_heat_job =
      record {
        heat = is_field_of setup (heat_vars h.place h.params h.conf) vars_are u
            (codes "heatflux::u") (ltb-true 0 3 refl) one refl refl;
        walls = is_field_of setup (heat_vars h.place h.params h.conf) vars_are mask
            (codes "heatflux::mask") (ltb-true 1 3 refl) one refl refl;
        sum = is_scalar_of setup (heat_vars h.place h.params h.conf) vars_are total
            (codes "heatflux::total") (ltb-true 2 3 refl) one refl refl;
        params = given;
        items = λ i d within. is_heat_item (get_or (run_items setup) i d)
            (is_run specs t (h.schedule ∷ []) h.values job h.made i d within).0
            (run_has_spec specs t (h.schedule ∷ []) h.values job h.made i d within
            (codes "HeatFlux") heat_storage h.named h.storage_is shapes);
      }
