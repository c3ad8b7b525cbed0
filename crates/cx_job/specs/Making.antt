-- The job that files make, or the first fault: stage after stage.
use Rattle.std.specs.Prelude.{◌≡◌, ◌≢◌, ◌⊎◌, ℕ, ◌^◌, ◌≤◌, List, codes, Option, None, option_map, Result, Ok, Err, IsErrAnd, MatchResult}
use Rattle.cx_parfile.specs.declared.settings.Setting.{Setting}
use Rattle.cx_parfile.specs.declared.steer.SteerLine.{SteerLine}
use Rattle.cx_sched.specs.declared.tree.ScheduleFile.{ScheduleFile}
use Rattle.cx_plan.specs.Lists.{or_else}
use Rattle.cx_plan.specs.Setups.{setup_of}
use Rattle.cx_plan.specs.Regions.{HasShapes}
use Rattle.cx_plan.specs.Paths.{Sound}
use Rattle.cx_plan.specs.Whole.{IsWhole}
use Rattle.cx_outputs.specs.Names.{HasShortNames}
use Rattle.cx_plan.specs.declared.variable.VarId.{VarId}
use Rattle.cx_plan.specs.declared.item.Item.{Item}
use Rattle.cx_plan.specs.declared.job.Job.{Job}
use Rattle.cx_bind.specs.Binding.{bind_fault}
use Rattle.cx_bind.specs.declared.thorns.Thorn.{Thorn}
use Rattle.cx_bind.specs.Parameters.{parameters}
use Rattle.cx_values.specs.Assigned.{assigned}
use Rattle.cx_values.specs.Faults.{assign_fault}
use Rattle.cx_values.specs.Steering.{steer_fault, steps}
use Rattle.cx_values.specs.declared.fault.ValueFault.{ValueFault}
use Rattle.cx_values.specs.declared.fault.ValueFault.TheVariants as value_faults
use Rattle.cx_values.specs.declared.steering.SteerStep.{SteerStep}
use Rattle.cx_values.specs.declared.values.Values.{Values}
use Rattle.cx_scope.specs.Sight.{Sight, IsSightOf}
use Rattle.cx_scope.specs.declared.fault.ScopeFault.{ScopeFault}
use Rattle.cx_scope.specs.declared.fault.ScopeFault.TheVariants as scopes
use Rattle.cx_order.specs.Files.{Input, input_of}
use Rattle.cx_order.specs.Ordering.{IsPlan, IsFault, without_cycle}
use Rattle.cx_order.specs.declared.ordered.Ordered.{Ordered}
use Rattle.cx_order.specs.declared.fault.OrderFault.{OrderFault}
use Rattle.cx_order.specs.declared.fault.OrderFault.TheVariants as orders
use Rattle.cx_region.specs.Checks.{IsRegionFault, without_path}
use Rattle.cx_region.specs.declared.fault.RegionFault.{RegionFault}
use Rattle.cx_region.specs.declared.fault.RegionFault.TheVariants as regions
use Rattle.cx_rule.specs.declared.spec.Spec.{Spec}
use Rattle.cx_rule.specs.Jobs.{FitJob}
use Rattle.cx_disk.specs.Cause.{HasCause}
use Rattle.cx_job.specs.declared.fault.JobFault.{JobFault}
use Rattle.cx_job.specs.declared.fault.JobFault.TheVariants as faults
use Rattle.cx_job.specs.declared.stages.Contents.{Contents}
use Rattle.cx_job_files.specs.declared.configuring.Configured.{Configured}
use Rattle.cx_job_files.specs.declared.shelf.Shelf.{Ghosts}
use Rattle.cx_job_files.specs.Shelf.{Held}
use Rattle.cx_text.specs.Telling.{Stage, Then}
use Rattle.cx_job_files.specs.Stages.{Is, unless, or_fault, Raised}
use Rattle.cx_job_files.specs.Configuring.{Configures}
use Rattle.cx_job_files.specs.Reading.{SaysSteers}
use Rattle.cx_job_values.specs.RunNumbers.{steer_file}
use Rattle.cx_job.specs.Faults.{config_fault, match_fault}
use Rattle.cx_job.specs.Jobs.{job_of, steered_job}
use Rattle.cx_cut.specs.Faults.{parts_of, cut_fault}
use Rattle.cx_job.specs.JobLimits.{over, run_count, key_limit, limit_fault}
use Rattle.cx_job.specs.LocalCells.{local_cells}
use Rattle.cx_job.specs.Caps.{caps_fault}
use Rattle.cx_job_items.specs.Matching.{all_matched}
use Rattle.cx_job.specs.Outputs.{output_variables}
use Rattle.cx_job.specs.Weights.{weight_fault}

-- an answer is what the stage comes to, unless memory is wanting
abbrev pub Yields : {A : Type 0} → Stage A JobFault → Result A JobFault → Type 0
Yields stage result = (result ≡ Err faults.Memory) ⊎ stage result

-- ---- from a configuration to its job

-- the plan, or a fault of ordering
abbrev pub Orders : Input → Stage Ordered JobFault
Orders input (Ok ordered) = IsPlan input ordered
Orders input (Err e) = (fault : OrderFault) × (e ≡ faults.Order fault) × (fault ≢ orders.Memory)
    × IsFault input fault

-- what the fault of a name that a parameter has is to a job: it has this path in place of an item's
abbrev pub IsNameFault : List ℕ → ScopeFault → JobFault → Type 0
IsNameFault path fault e = (e ≡ faults.Memory)
    ⊎ ((fault ≢ scopes.Memory) × (e ≡ faults.Order (orders.Scope path fault)))

-- the variables that are written; a name's fault has the path `output`
abbrev pub output_ids : List Thorn → Values → List ℕ → Result (List VarId) JobFault
output_ids thorns values storage =
    or_fault (λ f. faults.Order (orders.Scope (codes "output") f))
    (output_variables thorns values storage)

-- the fault of the name of the variable that weighs, with the path `weight`
abbrev pub weight_limit : List Thorn → Values → List ℕ → Option JobFault
weight_limit thorns values storage =
    option_map (λ f. faults.Order (orders.Scope (codes "weight") f))
    (weight_fault thorns values storage)

-- the variables that are written, where the name of the one that weighs has no fault
abbrev pub within_weight : List Thorn → Values → List ℕ → List VarId
    → Result (List VarId) JobFault
within_weight thorns values storage out_vars =
    unless (weight_limit thorns values storage) out_vars

-- the items matched with the objects' Specs, by what the thorns see
pub record Matches (thorns : List Thorn) (values : Values) (specs : List Spec) (ordered : Ordered)
    (result : Result (List Item) JobFault) : Type 0 where
  pub sight : Sight
  pub told : IsSightOf thorns sight
  pub items : result ≡ or_fault match_fault
      (all_matched (record { thorns = thorns; sight = sight; storage = ordered.storage })
      values specs (run_count ordered.plan) ordered.items)

abbrev pub within_limits : ℕ → Job → Result Job JobFault
within_limits run job = unless (limit_fault run job.items job.shape job.vars job.key) job

-- the job, unless its key is too long
abbrev pub key_within : Job → Result Job JobFault
key_within job = unless (key_limit job.key) job

-- the job of these items and written variables, with these steps, within its limits
abbrev pub job_within : List Spec → List SteerStep → ℕ → List Thorn → Values → Ordered → Contents
    → Result Job JobFault
job_within specs steps run thorns values ordered c = within_limits run
    (steered_job specs (parameters thorns) steps
    (job_of thorns values ordered c.items c.out_vars))

-- the parts don't hold too many numbers, and none is too large for a routine
abbrev pub part_limits : List Spec → Job → Option JobFault
part_limits specs job = or_else (over (codes "local cells") (local_cells job) (2 ^ 27))
    (caps_fault specs job)

-- the grid can be cut as the job says, into such parts
abbrev pub cut_limits : List Spec → Job → Option JobFault
cut_limits specs job = or_else (option_map faults.Cut (cut_fault (parts_of job.shape job.cut)))
    (part_limits specs job)

abbrev pub within_cut : List Spec → Job → Result Job JobFault
within_cut specs job = unless (cut_limits specs job) job

-- the job itself, where on no path a need is unmet
abbrev pub Accepts : Job → Stage Job JobFault
Accepts job (Ok other) = (other ≡ job) × HasShapes (setup_of job) × Sound (setup_of job)
Accepts job (Err e) = (fault : RegionFault) × (e ≡ faults.Region fault) × (fault ≢ regions.Memory)
    × IsRegionFault (setup_of job) fault

-- Bound, with values, with the steps of the steer file, ordered, with the variables that are
-- written, with the one that weighs, matched, within the limits, cut, and accepted: a stage stands
-- behind what it takes from those before it.
abbrev pub CutAnd : List Spec → Job → Stage Job JobFault
CutAnd specs job = Then (Is (within_cut specs job)) Accepts

abbrev pub LimitsAnd : List Spec → ℕ → Job → Stage Job JobFault
LimitsAnd specs run job = Then (Is (within_limits run job)) (CutAnd specs)

abbrev pub ItemsAnd : List Spec → List SteerStep → List Thorn → Values → Ordered → List VarId
    → Stage Job JobFault
ItemsAnd specs steps thorns values ordered out_vars =
    Then (Matches thorns values specs ordered)
    (λ items. LimitsAnd specs (run_count ordered.plan)
    (steered_job specs (parameters thorns) steps (job_of thorns values ordered items out_vars)))

abbrev pub WeightAnd : List Spec → List SteerStep → List Thorn → Values → Ordered → List VarId
    → Stage Job JobFault
WeightAnd specs steps thorns values ordered out_vars =
    Then (Is (within_weight thorns values ordered.storage out_vars))
    (ItemsAnd specs steps thorns values ordered)

abbrev pub OutputsAnd : List Spec → List SteerStep → List Thorn → Values → Ordered
    → Stage Job JobFault
OutputsAnd specs steps thorns values ordered =
    Then (Is (output_ids thorns values ordered.storage))
    (WeightAnd specs steps thorns values ordered)

abbrev pub PlanAnd : List Spec → List ScheduleFile → List Thorn → Values → List SteerStep
    → Stage Job JobFault
PlanAnd specs schedules thorns values steps =
    Then (Orders (input_of thorns schedules values)) (OutputsAnd specs steps thorns values)

-- the steps of the lines of the steer file, or the fault of one, with the file's name
abbrev pub steered_steps : List ℕ → List Thorn → Values → List SteerLine
    → Result (List SteerStep) JobFault
steered_steps name thorns values lines =
    unless (option_map (faults.Steer name) (steer_fault thorns values lines))
    (steps thorns lines)

abbrev pub StepsAnd : List Spec → List ScheduleFile → List Thorn → Values → List SteerLine
    → Stage Job JobFault
StepsAnd specs schedules thorns values lines =
    Then (Is (steered_steps (steer_file values) thorns values lines))
    (PlanAnd specs schedules thorns values)

-- the steer file that the values name is read, and its lines are tested
abbrev pub SteersAnd : List Spec → Held → List ScheduleFile → List Thorn → Values
    → Stage Job JobFault
SteersAnd specs files schedules thorns values =
    Then (Raised config_fault (SaysSteers (steer_file values) files))
    (StepsAnd specs schedules thorns values)

-- bound thorns, or their fault
abbrev pub bound_thorns : List Thorn → Result (List Thorn) JobFault
bound_thorns thorns = unless (option_map faults.Bind (bind_fault thorns)) thorns

-- the values of parameters, or the fault of one
abbrev pub assigned_values : List Thorn → List Setting → Result Values JobFault
assigned_values thorns settings =
    unless (option_map faults.Value (assign_fault thorns settings)) (assigned thorns settings)

abbrev pub ValuesAnd : List Spec → Held → List ScheduleFile → List Setting → List Thorn
    → Stage Job JobFault
ValuesAnd specs files schedules settings thorns =
    Then (Is (assigned_values thorns settings)) (SteersAnd specs files schedules thorns)

abbrev pub MadeOf : List Spec → Held → Configured → Stage Job JobFault
MadeOf specs files c =
    Then (Is (bound_thorns c.thorns)) (ValuesAnd specs files c.schedules c.settings.list)

-- a job that is whole, cut and accepted, and that the objects fit
pub record IsReady (specs : List Spec) (job : Job) : Type 0 where
  pub whole : IsWhole job
  pub shapes : HasShapes (setup_of job)
  pub sound : Sound (setup_of job)
  pub fit : FitJob specs job
  pub cut : cut_fault (parts_of job.shape job.cut) ≡ None
  pub few_cells : local_cells job ≤ 2 ^ 27
  pub names : HasShortNames (setup_of job)

-- the plan of some schedule files of thorns that fit each other
pub record IsPlanned (thorns : List Thorn) (values : Values) (ordered : Ordered) : Type 0 where
  pub fit : bind_fault thorns ≡ None
  pub files : List ScheduleFile
  pub plan : IsPlan (input_of thorns files values) ordered

-- what the files under this parameter file's name and the objects' Specs make
abbrev pub Made : List ℕ → List Spec → Held → Stage Job JobFault
Made name specs files =
    Then (Raised config_fault (Configures name files)) (MadeOf specs files)

-- What a fault tells beside the cycle or the path that it shows: of several any may be shown.
abbrev pub without_witness : JobFault → JobFault
without_witness (faults.Order fault) = faults.Order (without_cycle fault)
without_witness (faults.Region fault) = faults.Region (without_path fault)
without_witness faults.Shelf = faults.Shelf
without_witness (faults.NoFile name) = faults.NoFile name
without_witness (faults.Text name fault) = faults.Text name fault
without_witness (faults.Ccl name fault) = faults.Ccl name fault
without_witness (faults.Bind fault) = faults.Bind fault
without_witness (faults.Value fault) = faults.Value fault
without_witness (faults.Steer name fault) = faults.Steer name fault
without_witness (faults.UnknownRoutine path) = faults.UnknownRoutine path
without_witness (faults.RoutineMismatch path declared offered) =
    faults.RoutineMismatch path declared offered
without_witness (faults.Limit name count) = faults.Limit name count
without_witness (faults.Cut fault) = faults.Cut fault
without_witness (faults.TooLarge path points cap) = faults.TooLarge path points cap
without_witness faults.Memory = faults.Memory

-- what a fault of a line of the steer file of this name is to a job
abbrev pub IsSteerFault : List ℕ → ValueFault → JobFault → Type 0
IsSteerFault name fault e = (e ≡ faults.Memory)
    ⊎ ((fault ≢ value_faults.Memory) × (e ≡ faults.Steer name fault))

-- An answer of a stage that reads files of a shelf that held these, with its counts of faults
-- before and after. Where the shelf tells its files, it is what the stage comes to, but for want of
-- memory and failures of the shelf; and they are as they were.
pub record Reaches (tells : Type 0) (stage : Held → Stage Job JobFault) (old new : Held)
    (before now : ℕ) (result : Result Job JobFault) : Type 0 where
  pub answers : tells → (result ≡ Err faults.Memory) ⊎ (result ≡ Err faults.Shelf)
      ⊎ stage old result
  pub same : tells → new ≡ old
  pub cause : HasCause faults.Shelf before now result

-- the same of a shelf before and after a call
abbrev pub ReachesFrom : {S : Type 0} → Ghosts S → (Held → Stage Job JobFault) → S → S
    → Result Job JobFault → Type 0
ReachesFrom shelf stage old new result =
    Reaches shelf.tells stage (shelf.held old) (shelf.held new) (shelf.faults old)
    (shelf.faults new) result

-- An answer over a shelf that held these files, with its counts of faults before and after. Where
-- the shelf tells its files, it is what they make, but for want of memory and failures of the
-- shelf; and they are as they were. Where they make a job, it is this one, and where they make a
-- fault, it is this one but for its witness.
pub record Makes (tells : Type 0) (made : Held → Stage Job JobFault) (old new : Held)
    (before now : ℕ) (result : Result Job JobFault) : Type 0 where
  pub answers : tells → (result ≡ Err faults.Memory) ⊎ (result ≡ Err faults.Shelf) ⊎ made old result
  pub only : tells → (job : Job) → made old (Ok job)
      → MatchResult result (λ found. found ≡ job) (λ e. (e ≡ faults.Memory) ⊎ (e ≡ faults.Shelf))
  pub faulty : tells → (fault : JobFault) → made old (Err fault)
      → IsErrAnd result (λ e. (e ≡ faults.Memory) ⊎ (e ≡ faults.Shelf)
      ⊎ (without_witness e ≡ without_witness fault))
  pub same : tells → new ≡ old
  pub cause : HasCause faults.Shelf before now result

-- the same of a shelf before and after a call
abbrev pub MakesFrom : {S : Type 0} → Ghosts S → (Held → Stage Job JobFault) → S → S
    → Result Job JobFault → Type 0
MakesFrom shelf made old new result =
    Makes shelf.tells made (shelf.held old) (shelf.held new) (shelf.faults old) (shelf.faults new)
    result
