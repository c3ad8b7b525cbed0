-- What stays in a job that is made of the files of a thorn that conserves.
use Rattle.std.proofs.Common.{◌≡◌, refl, sym, ap, subst, ◌∙◌, ℕ, ◌<◌, Bool, true, false, nat_lt, ltb-true, ltb-false, List, length, Ok, codes, arith}
use Rattle.cx_plan.specs.Lookups.{variable, no_variable}
use Rattle.cx_plan.specs.Regions.{HasShapes}
use Rattle.cx_plan.specs.Setups.{Setup, setup_of}
use Rattle.cx_plan.specs.Whole.{IsWhole}
use Rattle.cx_plan.specs.declared.job.Job.{Job}
use Rattle.cx_plan.specs.declared.variable.VarId.{VarId}
use Rattle.cx_rule.specs.Routine.{Rule}
use Rattle.cx_rule.specs.declared.spec.Spec.{Spec}
use Rattle.cx_job_files.specs.Shelf.{Held}
use Rattle.cx_job.specs.Making.{Made}
use Rattle.law_physics.specs.Constant.{IsScalarOf}
use Rattle.law_physics.specs.GasRuns.{GasVars, IsGasJob}
use Rattle.law_physics.specs.HeatRuns.{IsHeatJob}
use Rattle.law_physics_job.specs.Alone.{RunsHeatFlux, RunsLatticeGas}
use Rattle.law_physics_job.specs.GasRoutines.{HandsInGas}
use Rattle.law_physics_job.specs.HeatRoutines.{HandsInHeat}
use Rattle.law_physics_job.specs.Named.{IsNamed, IsGasSum, Particles, MomentumX, MomentumY}
use Rattle.law_physics_job.specs.Texts.{heat_interface, heat_params, heat_schedule, gas_interface, gas_params, gas_schedule}
use Rattle.law_physics_job.proofs.GasJob.{gas_vars, is_gas_job}
use Rattle.law_physics_job.proofs.HeatJob.{u, mask, total, is_heat_job}
use Rattle.law_physics_job.proofs.Shipped.{is_of_thorn}
use Rattle.law_physics_job.proofs.Trees.{heat_tree, heat_slots, heat_lines, heat_storage, heat_says, heat_quiet, heat_stores, heat_stored, gas_tree, gas_slots, gas_lines, gas_storage, gas_says, gas_quiet, gas_stores, gas_stored}

module _ (job : Job) (whole : IsWhole job) where
  abbrev setup : Setup
  setup = setup_of job

  -- ---- a full name is that of one variable

  one_number : (n m : ℕ) → n < length job.vars → m < length job.vars
      → (variable setup (record { 0 = n })).full ≡ (variable setup (record { 0 = m })).full → n ≡ m
  one_number n m there also same = by (nat_lt n m) refl (nat_lt m n) refl
    where
      by : (b : Bool) → nat_lt n m ≡ b → (c : Bool) → nat_lt m n ≡ c → n ≡ m
      by true is c too =
          absurd (whole.names_differ n m no_variable (ltb-true n m is) also same)
      by false is true too =
          absurd (whole.names_differ m n no_variable (ltb-true m n too) there (sym same))
      by false is false too =
          (let more = ltb-false n m is in let less = ltb-false m n too in omega (arith, more, less))

  same_variable : (name : List ℕ) (v w : VarId) → IsNamed setup name v → IsScalarOf setup name w
      → w ≡ v
  same_variable name v w named scalar = ap (λ (n : ℕ). record { 0 = n })
      (one_number w.0 v.0 scalar.var named.var (scalar.full ∙ sym named.full))

  module _ (rules : List Rule) (specs : List Spec) (name : List ℕ) (files : Held)
      (made : Made name specs files (Ok job)) (shapes : HasShapes setup) where
    -- ---- heat

    module _ (hands : HandsInHeat rules specs) (runs : RunsHeatFlux name files) where
      is_heat : IsHeatJob setup rules u mask total
      is_heat = is_heat_job rules specs hands job
          (is_of_thorn (codes "HeatFlux") heat_interface heat_params heat_schedule name files
          heat_tree heat_slots heat_lines heat_storage heat_says heat_quiet heat_stores heat_stored
          specs job runs made) shapes

      -- what holds of the total of each job of heat holds of the variable of its name
      pub heat_holds : (P : VarId → Type 0)
          → ((a b c : VarId) → IsHeatJob setup rules a b c → P c) → (v : VarId)
          → IsNamed setup (codes "heatflux::total") v → P v
      heat_holds P holds v named =
          subst P (same_variable (codes "heatflux::total") v total named is_heat.sum)
          (holds u mask total is_heat)

    -- ---- gas

    module _ (hands : HandsInGas rules specs) (runs : RunsLatticeGas name files) where
      is_gas : IsGasJob setup rules gas_vars
      is_gas = is_gas_job rules specs hands job
          (is_of_thorn (codes "LatticeGas") gas_interface gas_params gas_schedule name files
          gas_tree gas_slots gas_lines gas_storage gas_says gas_quiet gas_stores gas_stored
          specs job runs made) shapes

      -- what holds of the sums of each job of gas holds of the variables of their names
      pub gas_holds : (P : VarId → Type 0)
          → ((vars : GasVars) → IsGasJob setup rules vars → P vars.particles)
          → ((vars : GasVars) → IsGasJob setup rules vars → P vars.total_x)
          → ((vars : GasVars) → IsGasJob setup rules vars → P vars.total_y) → (v : VarId)
          → IsGasSum setup v → P v
      gas_holds P particles x y v (Particles named) =
          subst P (same_variable (codes "gas::particles") v gas_vars.particles named
          is_gas.particles) (particles gas_vars is_gas)
      gas_holds P particles x y v (MomentumX named) =
          subst P (same_variable (codes "gas::total_x") v gas_vars.total_x named is_gas.total_x)
          (x gas_vars is_gas)
      gas_holds P particles x y v (MomentumY named) =
          subst P (same_variable (codes "gas::total_y") v gas_vars.total_y named is_gas.total_y)
          (y gas_vars is_gas)
