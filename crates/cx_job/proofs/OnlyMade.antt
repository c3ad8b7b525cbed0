-- A configuration makes one job, or it has one fault but for the cycle or the path that is shown.
use Rattle.std.proofs.Common.{◌≡◌, ◌∙◌, sym, ap, ℕ, List, Result, Ok, Err, inl, inr}
use Rattle.std.specs.Prelude.{option_map}
use Rattle.cx_plan.specs.Setups.{Setup, setup_of}
use Rattle.cx_plan.specs.Regions.{HasShapes}
use Rattle.cx_plan.specs.Paths.{Sound}
use Rattle.cx_plan.specs.declared.item.Item.{Item}
use Rattle.cx_plan.specs.declared.job.Job.{Job}
use Rattle.cx_plan.specs.declared.variable.VarId.{VarId}
use Rattle.cx_parfile.specs.declared.settings.Setting.{Setting}
use Rattle.cx_sched.specs.declared.tree.ScheduleFile.{ScheduleFile}
use Rattle.cx_bind.specs.Binding.{bind_fault}
use Rattle.cx_bind.specs.declared.thorns.Thorn.{Thorn}
use Rattle.cx_values.specs.Assigned.{assigned}
use Rattle.cx_values.specs.Faults.{assign_fault}
use Rattle.cx_bind.specs.Parameters.{parameters}
use Rattle.cx_parfile.specs.declared.steer.SteerLine.{SteerLine}
use Rattle.cx_values.specs.declared.steering.SteerStep.{SteerStep}
use Rattle.cx_values.specs.declared.values.Values.{Values}
use Rattle.cx_order.specs.Files.{Input, input_of}
use Rattle.cx_order.specs.declared.ordered.Ordered.{Ordered}
use Rattle.cx_order.proofs.OnlyPlan.{only, never-both}
use Rattle.cx_order.proofs.OnlyFaults as orders
use Rattle.cx_region.proofs.OnlyFaults as regions
use Rattle.cx_region.specs.Checks.{IsRegionFault}
use Rattle.cx_region.specs.declared.fault.RegionFault.{RegionFault}
use Rattle.cx_region.proofs.OnlyFaults.{no-shape-fault}
use Rattle.cx_rule.specs.declared.spec.Spec.{Spec}
use Rattle.cx_job.specs.declared.fault.JobFault.{JobFault}
use Rattle.cx_job.specs.declared.fault.JobFault.TheVariants as faults
use Rattle.cx_job_files.specs.declared.configuring.Configured.{Configured}
use Rattle.cx_job.specs.Faults.{config_fault, match_fault}
use Rattle.cx_job.specs.Jobs.{job_of, steered_job}
use Rattle.cx_job_items.proofs.OnlyMatched.{all-same}
use Rattle.cx_job_files.specs.Reading.{SaysSteers}
use Rattle.cx_job_files.specs.Shelf.{Held}
use Rattle.cx_job_files.specs.Stages.{Is, unless, or_fault, Raised}
use Rattle.cx_job_files.proofs.OnlyFiles.{steers_settled}
use Rattle.cx_job_values.specs.RunNumbers.{steer_file}
use Rattle.cx_job_files.proofs.Settled.{Settled, same_fault, settled_is, then_settled, raised_settled}
use Rattle.cx_job.specs.JobLimits.{run_count}
use Rattle.cx_job.specs.Making.{Orders, Matches, Accepts, CutAnd, within_cut, LimitsAnd, ItemsAnd, within_weight, WeightAnd, OutputsAnd, PlanAnd, steered_steps, StepsAnd, SteersAnd, ValuesAnd, MadeOf, output_ids, within_limits, without_witness}

matches_same : (thorns : List Thorn) (values : Values) (specs : List Spec) (ordered : Ordered)
    (r s : Result (List Item) JobFault) → Matches thorns values specs ordered r
    → Matches thorns values specs ordered s → r ≡ s
matches_same thorns values specs ordered r s m n =
    m.items ∙ ap (or_fault match_fault)
    (all-same thorns m.sight n.sight ordered.storage values m.told n.told specs
    (run_count ordered.plan) ordered.items) ∙ sym n.items

matches_settled : (thorns : List Thorn) (values : Values) (specs : List Spec) (ordered : Ordered)
    → Settled without_witness (Matches thorns values specs ordered)
matches_settled thorns values specs ordered = record {
  one = λ x r m n. matches_same thorns values specs ordered r (Ok x) n m;
  alike = λ e f m n. ap without_witness
      (same_fault (List Item) e f (matches_same thorns values specs ordered (Err e) (Err f) m n));
}

-- ---- the plan, and the job's acceptance

orders_one : (input : Input) (x : Ordered) (r : Result Ordered JobFault) → Orders input (Ok x)
    → Orders input r → r ≡ Ok x
orders_one input x (Ok y) p q = ap (λ (o : Ordered). Ok o) (only input y x q p)
orders_one input x (Err e) p (fault, is, other, told) = absurd (never-both input x fault p told)

orders_settled : (input : Input) → Settled without_witness (Orders input)
orders_settled input = record {
  one = orders_one input;
  alike = λ e f (a, is, other, told) (b, is2, other2, told2). ap without_witness is
      ∙ ap faults.Order (orders.one-fault input a b told told2) ∙ sym (ap without_witness is2);
}

never-refused : (setup : Setup) (fault : RegionFault) → HasShapes setup → Sound setup
    → IsRegionFault setup fault → ⊥
never-refused setup fault shapes sound (inl told) = no-shape-fault setup fault shapes told
never-refused setup fault shapes sound (inr (has, f)) =
    let none = sound f.first.0 f.first.1 in
    let some = f.first.2 in
    absurd cc

accepts_one : (job : Job) (x : Job) (r : Result Job JobFault) → Accepts job (Ok x) → Accepts job r
    → r ≡ Ok x
accepts_one job x (Ok y) p q = ap (λ (j : Job). Ok j) (q.0 ∙ sym p.0)
accepts_one job x (Err e) p (fault, is, other, told) =
    absurd (never-refused (setup_of job) fault p.1 p.2 told)

accepts_settled : (job : Job) → Settled without_witness (Accepts job)
accepts_settled job = record {
  one = accepts_one job;
  alike = λ e f (a, is, other, told) (b, is2, other2, told2). ap without_witness is
      ∙ ap faults.Region (regions.one-fault (setup_of job) a b told told2)
      ∙ sym (ap without_witness is2);
}

-- ---- all stages behind the files

cut_settled : (specs : List Spec) (job : Job) → Settled without_witness (CutAnd specs job)
cut_settled specs job = then_settled without_witness (Is (within_cut specs job)) Accepts
    (settled_is without_witness (within_cut specs job)) accepts_settled

limits_settled : (specs : List Spec) (run : ℕ) (job : Job)
    → Settled without_witness (LimitsAnd specs run job)
limits_settled specs run job =
    then_settled without_witness (Is (within_limits run job)) (CutAnd specs)
    (settled_is without_witness (within_limits run job)) (cut_settled specs)

module _ (specs : List Spec) where
  items_settled : (steps : List SteerStep) (thorns : List Thorn) (values : Values)
      (ordered : Ordered) (out_vars : List VarId)
      → Settled without_witness (ItemsAnd specs steps thorns values ordered out_vars)
  items_settled steps thorns values ordered out_vars =
      then_settled without_witness (Matches thorns values specs ordered)
      (λ items. LimitsAnd specs (run_count ordered.plan)
      (steered_job specs (parameters thorns) steps
      (job_of thorns values ordered items out_vars)))
      (matches_settled thorns values specs ordered)
      (λ items. limits_settled specs (run_count ordered.plan)
      (steered_job specs (parameters thorns) steps
      (job_of thorns values ordered items out_vars)))

  weight_settled : (steps : List SteerStep) (thorns : List Thorn) (values : Values)
      (ordered : Ordered) (out_vars : List VarId)
      → Settled without_witness (WeightAnd specs steps thorns values ordered out_vars)
  weight_settled steps thorns values ordered out_vars =
      let told : Result (List VarId) JobFault =
      within_weight thorns values ordered.storage out_vars in
      then_settled without_witness (Is told) (ItemsAnd specs steps thorns values ordered)
      (settled_is without_witness told) (items_settled steps thorns values ordered)

  outputs_settled : (steps : List SteerStep) (thorns : List Thorn) (values : Values)
      (ordered : Ordered)
      → Settled without_witness (OutputsAnd specs steps thorns values ordered)
  outputs_settled steps thorns values ordered =
      then_settled without_witness (Is (output_ids thorns values ordered.storage))
      (WeightAnd specs steps thorns values ordered)
      (settled_is without_witness (output_ids thorns values ordered.storage))
      (weight_settled steps thorns values ordered)

  plan_settled : (schedules : List ScheduleFile) (thorns : List Thorn) (values : Values)
      (steps : List SteerStep)
      → Settled without_witness (PlanAnd specs schedules thorns values steps)
  plan_settled schedules thorns values steps =
      then_settled without_witness (Orders (input_of thorns schedules values))
      (OutputsAnd specs steps thorns values) (orders_settled (input_of thorns schedules values))
      (outputs_settled steps thorns values)

  steps_settled : (schedules : List ScheduleFile) (thorns : List Thorn) (values : Values)
      (lines : List SteerLine)
      → Settled without_witness (StepsAnd specs schedules thorns values lines)
  steps_settled schedules thorns values lines =
      let told : Result (List SteerStep) JobFault =
      steered_steps (steer_file values) thorns values lines in
      then_settled without_witness (Is told) (PlanAnd specs schedules thorns values)
      (settled_is without_witness told) (plan_settled schedules thorns values)

  steers_and_settled : (files : Held) (schedules : List ScheduleFile) (thorns : List Thorn)
      (values : Values) → Settled without_witness (SteersAnd specs files schedules thorns values)
  steers_and_settled files schedules thorns values =
      then_settled without_witness (Raised config_fault (SaysSteers (steer_file values) files))
      (StepsAnd specs schedules thorns values)
      (raised_settled without_witness config_fault (SaysSteers (steer_file values) files)
      (steers_settled files (steer_file values))) (steps_settled schedules thorns values)

  values_settled : (files : Held) (schedules : List ScheduleFile) (settings : List Setting)
      (thorns : List Thorn)
      → Settled without_witness (ValuesAnd specs files schedules settings thorns)
  values_settled files schedules settings thorns =
      let told : Result Values JobFault =
      unless (option_map faults.Value (assign_fault thorns settings)) (assigned thorns settings)
      in
      then_settled without_witness (Is told) (SteersAnd specs files schedules thorns)
      (settled_is without_witness told) (steers_and_settled files schedules thorns)

  pub made_settled : (files : Held) (c : Configured)
      → Settled without_witness (MadeOf specs files c)
  made_settled files c =
      let told : Result (List Thorn) JobFault =
      unless (option_map faults.Bind (bind_fault c.thorns)) c.thorns in
      then_settled without_witness (Is told) (ValuesAnd specs files c.schedules c.settings.list)
      (settled_is without_witness told) (values_settled files c.schedules c.settings.list)
