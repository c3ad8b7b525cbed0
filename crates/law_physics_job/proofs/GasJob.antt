-- A job of LatticeGas, as it is shipped, is a job of gas.
use Rattle.std.proofs.Common.{◌≡◌, refl, ap, ◌∙◌, ℕ, ◌<◌, ltb-true, true, false, ℤ, List, [], ◌∷◌, length, get_or, Some, codes}
use Rattle.std.specs.Prelude.{slice_index_or}
use Rattle.std.specs.Option.{unwrap_or}
use Rattle.cx_plan.specs.Lookups.{item, no_variable}
use Rattle.cx_plan.specs.Regions.{run_items, HasShapes}
use Rattle.cx_plan.specs.Setups.{Setup, setup_of}
use Rattle.cx_plan.specs.Steering.{item_at}
use Rattle.cx_plan.specs.declared.item.Item.{Item}
use Rattle.cx_plan.specs.declared.item.Region.TheVariants.{Everywhere, Interior, Boundary}
use Rattle.cx_plan.specs.declared.item.Touch.{Touch}
use Rattle.cx_plan.specs.declared.job.Job.{Job}
use Rattle.cx_plan.specs.declared.variable.VarId.{VarId}
use Rattle.cx_plan.specs.declared.variable.VarInfo.{VarInfo}
use Rattle.cx_param.specs.declared.declarations.ParamDecl.{ParamDecl}
use Rattle.cx_conf.specs.declared.configuration.Configuration.{Configuration}
use Rattle.cx_bind.specs.Selecting.{Place}
use Rattle.cx_bind.specs.declared.thorns.Thorn.{Thorn}
use Rattle.cx_rule.specs.Routine.{Rule, rule_at}
use Rattle.cx_rule.specs.declared.spec.Spec.{Spec}
use Rattle.cx_rule.specs.declared.spec.Want.{Want}
use Rattle.cx_job_items.specs.Matching.{touches_of, numbers_of}
use Rattle.cx_job_values.specs.Stored.{stored_infos}
use Rattle.cx_job.specs.JobLimits.{run_count}
use Rattle.cx_thorn_physics.specs.Gas.{gas_init_rule, gas_step_rule, gas_zero_rule, gas_measure_rule, gas_init_spec, gas_step_spec, gas_zero_spec, gas_measure_spec, gas_particles_spec, gas_total_x_spec, gas_total_y_spec}
use Rattle.law_physics.specs.Steps.{touch_of}
use Rattle.law_physics.specs.Constant.{IsFieldOf, IsScalarOf}
use Rattle.law_physics.specs.GasRuns.{GasVars, IsGasItem, Starts, Steps, Clears, Measured, Counts, SumsX, SumsY, IsGasJob}
use Rattle.law_physics_job.specs.GasRoutines.{IsGasRoutine, Init, Step, Zero, Measure, Particles, TotalX, TotalY, HandsInGas}
use Rattle.law_physics_job.proofs.Fields.{is_field_of, is_scalar_of}
use Rattle.law_physics_job.proofs.Matched.{world_with, HasSpec, IsBy, is_by, params_are, rule_is, run_has_spec, is_run}
use Rattle.law_physics_job.proofs.Params.{keeps}
use Rattle.law_physics_job.proofs.Shipped.{IsOfThorn}
use Rattle.law_physics_job.proofs.Trees.{thorn_of, gas_tree, gas_slots, gas_storage}

-- the variables by their numbers
abbrev var : ℕ → VarId
var n = record { 0 = n }

abbrev pub gas_vars : GasVars
gas_vars = record {
  cells = var 0;
  number = var 1;
  momentum_x = var 2;
  momentum_y = var 3;
  particles = var 4;
  total_x = var 5;
  total_y = var 6;
}

abbrev vars_of : Place → List ParamDecl → Configuration → List VarInfo
vars_of place ps conf = stored_infos (thorn_of place gas_tree ps conf ∷ []) gas_storage

module _ (rules : List Rule) (specs : List Spec) (hands : HandsInGas rules specs) (job : Job)
    (h : IsOfThorn (codes "LatticeGas") gas_tree gas_slots gas_storage specs job)
    (shapes : HasShapes (setup_of job)) where
  abbrev setup : Setup
  setup = setup_of job

  abbrev t : Thorn
  t = thorn_of h.place gas_tree h.params h.conf

  abbrev given : List ℤ
  given = unwrap_or (numbers_of h.values gas_init_spec.params) []

  abbrev Has : Item → Type 0
  Has y = HasSpec t (codes "LatticeGas") gas_storage specs h.values y

  vars_are : setup.vars ≡ vars_of h.place h.params h.conf
  vars_are = ap (λ (j : Job). j.vars) h.made.is ∙ ap (stored_infos (t ∷ [])) h.storage_is

  -- ---- items

  module _ (k : ℕ) (below : k < run_count h.made.ordered.plan) (y : Has (item setup k)) where
    abbrev Mean : List Want → List Touch → Type 0
    Mean wants ts = touches_of (world_with t gas_storage y.sight) (Some 0) wants ≡ Some ts

    by_spec : (spec : Spec) (reads writes : List Touch) → y.spec ≡ spec → Mean spec.reads reads
        → Mean spec.writes writes → IsBy specs spec reads writes (item setup k)
    by_spec = is_by t (codes "LatticeGas") gas_storage specs h.values (item setup k) y

    with_rule : (rule : Rule) → rule_at rules y.number ≡ rule
        → rule_at rules (item setup k).routine ≡ rule
    with_rule = rule_is t (codes "LatticeGas") gas_storage specs h.values (item setup k) y rules

    abbrev IsItemAt : ℕ → Type 0
    IsItemAt n = IsGasItem rules gas_vars given (item_at setup k n)

    starts : rule_at rules y.number ≡ gas_init_rule → y.spec ≡ gas_init_spec → (n : ℕ) → IsItemAt n
    starts rule is n =
        let by = by_spec gas_init_spec [] (touch_of (var 0) Everywhere 0 ∷ []) is refl refl in
        Starts (record {
          routine = with_rule gas_init_rule rule;
          kind = by.kind;
          written = by.written;
          params =
              keeps specs t (h.schedule ∷ []) h.values job h.made gas_slots h.quiet k below
              gas_init_spec by.object refl n
              ∙ params_are t (codes "LatticeGas") gas_storage specs h.values (item setup k) y
              gas_init_spec is;
        })

    steps_on : rule_at rules y.number ≡ gas_step_rule → y.spec ≡ gas_step_spec → (n : ℕ)
        → IsItemAt n
    steps_on rule is n =
        let by = by_spec gas_step_spec (touch_of (var 0) Everywhere 1 ∷ [])
        (touch_of (var 0) Interior 0 ∷ []) is refl refl in
        Steps (record {
          routine = with_rule gas_step_rule rule;
          kind = by.kind;
          read = by.read;
          written = by.written;
        })

    clears : rule_at rules y.number ≡ gas_zero_rule → y.spec ≡ gas_zero_spec → (n : ℕ) → IsItemAt n
    clears rule is n =
        let by = by_spec gas_zero_spec [] (touch_of (var 0) Boundary 0 ∷ []) is refl refl in
        Clears (record {
          routine = with_rule gas_zero_rule rule;
          kind = by.kind;
          read = by.read;
          written = by.written;
        })

    measures : rule_at rules y.number ≡ gas_measure_rule → y.spec ≡ gas_measure_spec → (n : ℕ)
        → IsItemAt n
    measures rule is n =
        let by = by_spec gas_measure_spec (touch_of (var 0) Everywhere 0 ∷ [])
        (touch_of (var 1) Everywhere 0 ∷ touch_of (var 2) Everywhere 0
        ∷ touch_of (var 3) Everywhere 0 ∷ []) is refl refl in
        Measured (record {
          routine = with_rule gas_measure_rule rule;
          kind = by.kind;
          read = by.read;
          written = by.written;
        })

    counts : y.spec ≡ gas_particles_spec → (n : ℕ) → IsItemAt n
    counts is n =
        let by = by_spec gas_particles_spec (touch_of (var 1) Everywhere 0 ∷ [])
        (touch_of (var 4) Everywhere 0 ∷ []) is refl refl in
        Counts (record { kind = by.kind; read = by.read; written = by.written })

    sums_x : y.spec ≡ gas_total_x_spec → (n : ℕ) → IsItemAt n
    sums_x is n =
        let by = by_spec gas_total_x_spec (touch_of (var 2) Everywhere 0 ∷ [])
        (touch_of (var 5) Everywhere 0 ∷ []) is refl refl in
        SumsX (record { kind = by.kind; read = by.read; written = by.written })

    sums_y : y.spec ≡ gas_total_y_spec → (n : ℕ) → IsItemAt n
    sums_y is n =
        let by = by_spec gas_total_y_spec (touch_of (var 3) Everywhere 0 ∷ [])
        (touch_of (var 6) Everywhere 0 ∷ []) is refl refl in
        SumsY (record { kind = by.kind; read = by.read; written = by.written })

    by_routine : IsGasRoutine (rule_at rules y.number) y.spec → (n : ℕ) → IsItemAt n
    by_routine (Init rule is) n = starts rule is n
    by_routine (Step rule is) n = steps_on rule is n
    by_routine (Zero rule is) n = clears rule is n
    by_routine (Measure rule is) n = measures rule is n
    by_routine (Particles is) n = counts is n
    by_routine (TotalX is) n = sums_x is n
    by_routine (TotalY is) n = sums_y is n

    is_gas_item : (n : ℕ) → IsItemAt n
    is_gas_item = by_routine (hands y.number y.spec y.object y.its)

  -- ---- the job

  one : 0 < 1
  one = ltb-true 0 1 refl

  field : (n : ℕ) (name : List ℕ) → n < length (vars_of h.place h.params h.conf)
      → 0 < (slice_index_or (vars_of h.place h.params h.conf) n no_variable).levels
      → (slice_index_or (vars_of h.place h.params h.conf) n no_variable).full ≡ name
      → (slice_index_or (vars_of h.place h.params h.conf) n no_variable).scalar ≡ false
      → IsFieldOf setup name (var n)
  field n name = is_field_of setup (vars_of h.place h.params h.conf) vars_are (var n) name

  scalar : (n : ℕ) (name : List ℕ) → n < length (vars_of h.place h.params h.conf)
      → 0 < (slice_index_or (vars_of h.place h.params h.conf) n no_variable).levels
      → (slice_index_or (vars_of h.place h.params h.conf) n no_variable).full ≡ name
      → (slice_index_or (vars_of h.place h.params h.conf) n no_variable).scalar ≡ true
      → IsScalarOf setup name (var n)
  scalar n name = is_scalar_of setup (vars_of h.place h.params h.conf) vars_are (var n) name

  pub is_gas_job : IsGasJob setup rules gas_vars
  is_gas_job =
      record {
        cells = field 0 (codes "gas::cell") (ltb-true 0 7 refl) one refl refl;
        number = field 1 (codes "gas::number") (ltb-true 1 7 refl) one refl refl;
        momentum_x = field 2 (codes "gas::momentum_x") (ltb-true 2 7 refl) one refl refl;
        momentum_y = field 3 (codes "gas::momentum_y") (ltb-true 3 7 refl) one refl refl;
        particles = scalar 4 (codes "gas::particles") (ltb-true 4 7 refl) one refl refl;
        total_x = scalar 5 (codes "gas::total_x") (ltb-true 5 7 refl) one refl refl;
        total_y = scalar 6 (codes "gas::total_y") (ltb-true 6 7 refl) one refl refl;
        params = given;
        items = λ i d within. is_gas_item (get_or (run_items setup) i d)
            (is_run specs t (h.schedule ∷ []) h.values job h.made i d within).0
            (run_has_spec specs t (h.schedule ∷ []) h.values job h.made i d within
            (codes "LatticeGas") gas_storage h.named h.storage_is shapes);
      }
