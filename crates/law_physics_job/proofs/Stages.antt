-- What the stages of a made job have come to.
use Rattle.std.proofs.Common.{◌≡◌, refl, subst, ◌∙◌, List, Option, Some, None, Ok}
use Rattle.std.specs.Option.{option_map}
use Rattle.cx_parfile.specs.declared.steer.SteerLine.{SteerLine}
use Rattle.cx_plan.specs.declared.item.Item.{Item}
use Rattle.cx_plan.specs.declared.job.Job.{Job}
use Rattle.cx_plan.specs.declared.variable.VarId.{VarId}
use Rattle.cx_sched.specs.declared.tree.ScheduleFile.{ScheduleFile}
use Rattle.cx_bind.specs.Binding.{bind_fault}
use Rattle.cx_bind.specs.Parameters.{parameters}
use Rattle.cx_bind.specs.declared.thorns.Thorn.{Thorn}
use Rattle.cx_values.specs.Assigned.{assigned}
use Rattle.cx_values.specs.Faults.{assign_fault}
use Rattle.cx_values.specs.Steering.{steer_fault, steps}
use Rattle.cx_values.specs.declared.steering.SteerStep.{SteerStep}
use Rattle.cx_values.specs.declared.values.Values.{Values}
use Rattle.cx_order.specs.Files.{input_of}
use Rattle.cx_order.specs.Ordering.{IsPlan}
use Rattle.cx_order.specs.declared.ordered.Ordered.{Ordered}
use Rattle.cx_rule.specs.declared.spec.Spec.{Spec}
use Rattle.cx_job_files.specs.declared.configuring.Configured.{Configured}
use Rattle.cx_job_files.specs.Reading.{SaysSteers}
use Rattle.cx_job_files.specs.Shelf.{Held}
use Rattle.cx_job_files.specs.Stages.{Is, Raised, unless}
use Rattle.cx_job_values.specs.RunNumbers.{steer_file}
use Rattle.cx_job.specs.declared.fault.JobFault.TheVariants as faults
use Rattle.cx_job.specs.Faults.{config_fault}
use Rattle.cx_job.specs.Jobs.{job_of, steered_job}
use Rattle.cx_job.specs.JobLimits.{limit_fault, run_count}
use Rattle.cx_job.specs.Making.{Orders, Matches, Accepts, CutAnd, cut_limits, within_cut, within_limits, LimitsAnd, ItemsAnd, within_weight, WeightAnd, OutputsAnd, PlanAnd, StepsAnd, SteersAnd, ValuesAnd, MadeOf, output_ids, bound_thorns, assigned_values, steered_steps}
use Rattle.law_physics_job.proofs.Thorn.{then_ok}

-- a value without a fault
unless_ok : {A F : Type 0} (o : Option F) (x y : A) → Ok y ≡ unless o x → (o ≡ None) × (y ≡ x)
unless_ok None x y e = (refl, cc)
unless_ok (Some f) x y e = absurd cc

none_told : {F G : Type 0} (f : F → G) (o : Option F) → option_map f o ≡ None → o ≡ None
none_told f None e = refl
none_told f (Some x) e = absurd cc

-- what a job is made of, by the values of parameters
pub record IsMadeOf (specs : List Spec) (thorns : List Thorn) (schedules : List ScheduleFile)
    (values : Values) (job : Job) : Type 0 where
  pub lines : List SteerLine
  pub steers : steer_fault thorns values lines ≡ None
  pub ordered : Ordered
  pub plan : IsPlan (input_of thorns schedules values) ordered
  pub out_vars : List VarId
  pub items : List Item
  pub matches : Matches thorns values specs ordered (Ok items)
  pub is : job ≡ steered_job specs (parameters thorns) (steps thorns lines)
      (job_of thorns values ordered items out_vars)

module _ (specs : List Spec) (files : Held) (job : Job) where
  accepted : (made : Job) → LimitsAnd specs (run_count made.plan) made (Ok job) → job ≡ made
  accepted made done =
      let few = then_ok (Is (within_limits (run_count made.plan) made)) (CutAnd specs) job done in
      let limited = unless_ok
      (limit_fault (run_count made.plan) made.items made.shape made.vars made.key)
      made few.0 few.1 in
      let cut = then_ok (Is (within_cut specs few.0)) Accepts job few.2 in
      let parted = unless_ok (cut_limits specs few.0) few.0 cut.0 cut.1 in
      cut.2.0 ∙ parted.1 ∙ limited.1

  module _ (thorns : List Thorn) (schedules : List ScheduleFile) (values : Values) where
    planned : (lines : List SteerLine) → steer_fault thorns values lines ≡ None
        → PlanAnd specs schedules thorns values (steps thorns lines) (Ok job)
        → IsMadeOf specs thorns schedules values job
    planned lines steers done =
        let taken = steps thorns lines in
        let ordered = then_ok (Orders (input_of thorns schedules values))
        (OutputsAnd specs taken thorns values) job done in
        let written = then_ok (Is (output_ids thorns values ordered.0.storage))
        (WeightAnd specs taken thorns values ordered.0) job ordered.2 in
        let weighed = then_ok (Is (within_weight thorns values ordered.0.storage written.0))
        (ItemsAnd specs taken thorns values ordered.0) job written.2 in
        let matched = then_ok (Matches thorns values specs ordered.0)
        (λ items. LimitsAnd specs (run_count ordered.0.plan)
        (steered_job specs (parameters thorns) taken
        (job_of thorns values ordered.0 items weighed.0))) job weighed.2 in
        record {
          lines = lines;
          steers = steers;
          ordered = ordered.0;
          plan = ordered.1;
          out_vars = weighed.0;
          items = matched.0;
          matches = matched.1;
          is = accepted (steered_job specs (parameters thorns) taken
              (job_of thorns values ordered.0 matched.0 weighed.0)) matched.2;
        }

    steered : SteersAnd specs files schedules thorns values (Ok job)
        → IsMadeOf specs thorns schedules values job
    steered done =
        let read = then_ok (Raised config_fault (SaysSteers (steer_file values) files))
        (StepsAnd specs schedules thorns values) job done in
        let tested = then_ok (Is (steered_steps (steer_file values) thorns values read.0))
        (PlanAnd specs schedules thorns values) job read.2 in
        let sound = unless_ok
        (option_map (faults.Steer (steer_file values)) (steer_fault thorns values read.0))
        (steps thorns read.0) tested.0 tested.1 in
        planned read.0
        (none_told (faults.Steer (steer_file values)) (steer_fault thorns values read.0) sound.0)
        (subst (λ (ss : List SteerStep). PlanAnd specs schedules thorns values ss (Ok job))
        sound.1 tested.2)

  pub made_of : (c : Configured) → MadeOf specs files c (Ok job)
      → IsMadeOf specs c.thorns c.schedules (assigned c.thorns c.settings.list) job
  made_of c made =
      let bound = then_ok (Is (bound_thorns c.thorns))
      (ValuesAnd specs files c.schedules c.settings.list) job made in
      let fit = unless_ok (option_map faults.Bind (bind_fault c.thorns)) c.thorns bound.0 bound.1 in
      let after =
      subst (λ (ts : List Thorn).
      ValuesAnd specs files c.schedules c.settings.list ts (Ok job)) fit.1 bound.2 in
      let given = then_ok (Is (assigned_values c.thorns c.settings.list))
      (SteersAnd specs files c.schedules c.thorns) job after in
      let sound = unless_ok (option_map faults.Value (assign_fault c.thorns c.settings.list))
      (assigned c.thorns c.settings.list) given.0 given.1 in
      steered c.thorns c.schedules (assigned c.thorns c.settings.list)
      (subst (λ (v : Values). SteersAnd specs files c.schedules c.thorns v (Ok job)) sound.1
      given.2)
