-- What the stages after a job have come to.
use Rattle.std.proofs.Common.{◌≡◌, refl, sym, ap, ◌∙◌, subst, List, codes, Option, Some, None, option_map, Result, Ok, Err, inl, inr}
use Rattle.cx_text.specs.Telling.{Stage, Then}
use Rattle.cx_plan.specs.declared.item.Item.{Item}
use Rattle.cx_plan.specs.declared.job.Job.{Job}
use Rattle.cx_plan.specs.declared.variable.VarId.{VarId}
use Rattle.cx_parfile.specs.declared.settings.Setting.{Setting}
use Rattle.cx_parfile.specs.declared.steer.SteerLine.{SteerLine}
use Rattle.cx_sched.specs.declared.tree.ScheduleFile.{ScheduleFile}
use Rattle.cx_bind.specs.Binding.{bind_fault}
use Rattle.cx_bind.specs.Parameters.{parameters}
use Rattle.cx_bind.specs.declared.thorns.Thorn.{Thorn}
use Rattle.cx_values.specs.Assigned.{assigned}
use Rattle.cx_values.specs.Faults.{assign_fault}
use Rattle.cx_values.specs.Steering.{steer_fault, steps}
use Rattle.cx_values.specs.declared.steering.SteerStep.{SteerStep}
use Rattle.cx_values.specs.declared.values.Values.{Values}
use Rattle.cx_order.specs.Files.{input_of}
use Rattle.cx_order.specs.Ordering.{IsPlan}
use Rattle.cx_order.specs.declared.ordered.Ordered.{Ordered}
use Rattle.cx_order.specs.declared.fault.OrderFault.TheVariants as orders
use Rattle.cx_scope.specs.declared.fault.ScopeFault.{ScopeFault}
use Rattle.cx_rule.specs.declared.spec.Spec.{Spec}
use Rattle.cx_job_files.specs.declared.configuring.Configured.{Configured}
use Rattle.cx_job_values.specs.RunNumbers.{steer_file}
use Rattle.cx_job_files.specs.Configuring.{Configures}
use Rattle.cx_job_files.specs.Reading.{SaysSteers}
use Rattle.cx_job_files.specs.Shelf.{Held}
use Rattle.cx_job_files.specs.Stages.{Is, Raised, or_fault, unless}
use Rattle.cx_job.specs.declared.fault.JobFault.{JobFault}
use Rattle.cx_job.specs.declared.fault.JobFault.TheVariants as faults
use Rattle.cx_job.specs.Faults.{config_fault}
use Rattle.cx_job.specs.Outputs.{output_variables}
use Rattle.cx_job.proofs.WrittenLaws.{outputs_rise}
use Rattle.cx_job.specs.Jobs.{job_of, steered_job}
use Rattle.cx_job.specs.JobLimits.{limit_fault, run_count}
use Rattle.cx_job.specs.Making.{Orders, Matches, Accepts, CutAnd, cut_limits, within_cut, within_limits, LimitsAnd, ItemsAnd, weight_limit, within_weight, WeightAnd, OutputsAnd, PlanAnd, StepsAnd, SteersAnd, ValuesAnd, MadeOf, output_ids, bound_thorns, assigned_values, steered_steps}
use Rattle.cx_run.specs.Calls.{Call, IsRun, shelf_for}
use Rattle.law_course.proofs.OutputLaws.{Rise, rise_from}
use Rattle.law_restarts.proofs.ListLaws.{none_told}

-- a value that two stages come to
pub then_ok : {A B F : Type 0} (p : Stage A F) (q : A → Stage B F) (y : B) → Then p q (Ok y)
    → (x : A) × p (Ok x) × q x (Ok y)
then_ok p q y (inl (e, s, never)) = absurd cc
then_ok p q y (inr t) = t

-- a value without a fault
unless_ok : {A F : Type 0} (o : Option F) (x y : A) → Ok y ≡ unless o x → (o ≡ None) × (y ≡ x)
unless_ok None x y e = (refl, cc)
unless_ok (Some f) x y e = absurd cc

abbrev jobs_ok : List VarId → Result (List VarId) JobFault
jobs_ok ids = Ok ids

abbrev scopes_ok : List VarId → Result (List VarId) ScopeFault
scopes_ok ids = Ok ids

-- all that a job is made of, behind thorns, schedules and settings
pub record Pieces (specs : List Spec) (files : Held) (thorns : List Thorn)
    (schedules : List ScheduleFile) (settings : List Setting) (job : Job) : Type 0 where
  pub fit : bind_fault thorns ≡ None
  pub lines : List SteerLine
  pub says : SaysSteers (steer_file (assigned thorns settings)) files (Ok lines)
  pub ordered : Ordered
  pub plan : IsPlan (input_of thorns schedules (assigned thorns settings)) ordered
  pub out_vars : List VarId
  pub outputs : Ok out_vars ≡ output_ids thorns (assigned thorns settings) ordered.storage
  pub items : List Item
  pub matches : Matches thorns (assigned thorns settings) specs ordered (Ok items)
  pub is : job ≡ steered_job specs (parameters thorns) (steps thorns lines)
      (job_of thorns (assigned thorns settings) ordered items out_vars)

module _ (specs : List Spec) (files : Held) (job : Job) where
  accepted : (made : Job) → LimitsAnd specs (run_count made.plan) made (Ok job) → job ≡ made
  accepted made done =
      let few = then_ok (Is (within_limits (run_count made.plan) made)) (CutAnd specs) job done in
      let limited = unless_ok
      (limit_fault (run_count made.plan) made.items made.shape made.vars made.key)
      made few.0 few.1 in
      let cut = then_ok (Is (within_cut specs few.0)) Accepts job few.2 in
      let parted = unless_ok (cut_limits specs few.0) few.0 cut.0 cut.1 in
      cut.2.0 ∙ parted.1 ∙ limited.1

  module _ (thorns : List Thorn) (schedules : List ScheduleFile) (settings : List Setting)
      (fit : bind_fault thorns ≡ None) where
    abbrev values : Values
    values = assigned thorns settings

    planned : (lines : List SteerLine) → SaysSteers (steer_file values) files (Ok lines)
        → PlanAnd specs schedules thorns values (steps thorns lines) (Ok job)
        → Pieces specs files thorns schedules settings job
    planned lines says done =
        let taken = steps thorns lines in
        let ordered = then_ok (Orders (input_of thorns schedules values))
        (OutputsAnd specs taken thorns values) job done in
        let written = then_ok (Is (output_ids thorns values ordered.0.storage))
        (WeightAnd specs taken thorns values ordered.0) job ordered.2 in
        let weighed = then_ok (Is (within_weight thorns values ordered.0.storage written.0))
        (ItemsAnd specs taken thorns values ordered.0) job written.2 in
        let named = unless_ok (weight_limit thorns values ordered.0.storage) written.0 weighed.0
        weighed.1 in
        let matched = then_ok (Matches thorns values specs ordered.0)
        (λ items. LimitsAnd specs (run_count ordered.0.plan)
        (steered_job specs (parameters thorns) taken
        (job_of thorns values ordered.0 items weighed.0))) job weighed.2 in
        record {
          fit = fit;
          lines = lines;
          says = says;
          ordered = ordered.0;
          plan = ordered.1;
          out_vars = weighed.0;
          outputs = ap jobs_ok named.1 ∙ written.1;
          items = matched.0;
          matches = matched.1;
          is = accepted (steered_job specs (parameters thorns) taken
              (job_of thorns values ordered.0 matched.0 weighed.0)) matched.2;
        }

    steered : SteersAnd specs files schedules thorns values (Ok job)
        → Pieces specs files thorns schedules settings job
    steered done =
        let read = then_ok (Raised config_fault (SaysSteers (steer_file values) files))
        (StepsAnd specs schedules thorns values) job done in
        let tested = then_ok (Is (steered_steps (steer_file values) thorns values read.0))
        (PlanAnd specs schedules thorns values) job read.2 in
        let sound = unless_ok
        (option_map (faults.Steer (steer_file values)) (steer_fault thorns values read.0))
        (steps thorns read.0) tested.0 tested.1 in
        planned read.0 read.1
        (subst (λ (ss : List SteerStep). PlanAnd specs schedules thorns values ss (Ok job))
        sound.1 tested.2)

  pub pieces_of : (c : Configured) → MadeOf specs files c (Ok job)
      → Pieces specs files c.thorns c.schedules c.settings.list job
  pieces_of c made =
      let bound = then_ok (Is (bound_thorns c.thorns))
      (ValuesAnd specs files c.schedules c.settings.list) job made in
      let fit = unless_ok (option_map faults.Bind (bind_fault c.thorns)) c.thorns bound.0 bound.1 in
      let after =
      subst (λ (ts : List Thorn).
      ValuesAnd specs files c.schedules c.settings.list ts (Ok job)) fit.1 bound.2 in
      let given = then_ok (Is (assigned_values c.thorns c.settings.list))
      (SteersAnd specs files c.schedules c.thorns) job after in
      let sound = unless_ok (option_map faults.Value (assign_fault c.thorns c.settings.list))
      (assigned c.thorns c.settings.list) given.0 given.1 in
      steered c.thorns c.schedules c.settings.list
      (none_told faults.Bind (bind_fault c.thorns) fit.0)
      (subst (λ (v : Values). SteersAnd specs files c.schedules c.thorns v (Ok job)) sound.1
      given.2)

one_list : (xs ys : List VarId) → jobs_ok xs ≡ jobs_ok ys → scopes_ok ys ≡ scopes_ok xs
one_list xs ys e = cc

told_ids : (ids : List VarId) (r : Result (List VarId) ScopeFault)
    → Ok ids ≡ or_fault (λ f. faults.Order (orders.Scope (codes "output") f)) r → r ≡ Ok ids
told_ids ids (Ok other) e = one_list ids other e
told_ids ids (Err f) e = absurd cc

-- the variables that a made job writes rise
module _ (specs : List Spec) (files : Held) (thorns : List Thorn) (schedules : List ScheduleFile)
    (settings : List Setting) (job : Job)
    (p : Pieces specs files thorns schedules settings job) where
  written_rise : Rise p.out_vars
  written_rise =
      rise_from p.out_vars
      (outputs_rise thorns (assigned thorns settings) p.ordered.storage p.out_vars
      (told_ids p.out_vars
      (output_variables thorns (assigned thorns settings) p.ordered.storage) p.outputs))

  pieces_rise : Rise job.out_vars
  pieces_rise = subst Rise (sym (ap (λ (j : Job). j.out_vars) p.is)) written_rise

pub made_rises : (job : Job) (c : Call) → IsRun c job → Rise job.out_vars
made_rises job c run =
    let files = (shelf_for c.shelf run.request.command).old in
    let made = then_ok (Raised config_fault (Configures run.request.file files))
    (MadeOf c.work.specs files) job run.makes in
    pieces_rise c.work.specs files made.0.thorns made.0.schedules made.0.settings.list job
    (pieces_of c.work.specs files job made.0 made.2)
