-- The stages from thorns to a job, one behind another.
use Rattle.std.proofs.Common.{◌≡◌, ◌≢◌, ◌∙◌, sym, ap, subst, refl, ◌⊎◌, inl, inr, ℕ, Bool, true, false, List, [], ◌∷◌, Option, Some, None, Result, Ok, Err, nat_lt, take, codes, ◌^◌, if◌then◌else◌, arith}
use Rattle.std.specs.Prelude.{option_map, slice_get, ◌≤◌, ◌+◌, ◌-◌, min}
use Rattle.cx_plan.specs.Lists.{or_else, first_of_each}
use Rattle.cx_plan.specs.declared.item.Item.{Item}
use Rattle.cx_plan.specs.declared.job.Job.{Job}
use Rattle.cx_plan.specs.declared.variable.VarId.{VarId}
use Rattle.cx_parfile.specs.declared.settings.Setting.{Setting}
use Rattle.cx_sched.specs.declared.tree.ScheduleFile.{ScheduleFile}
use Rattle.cx_bind.specs.Binding.{bind_fault}
use Rattle.cx_bind.specs.declared.thorns.BindFault.{BindFault}
use Rattle.cx_bind.specs.declared.thorns.Thorn.{Thorn}
use Rattle.cx_values.specs.Faults.{assign_fault}
use Rattle.cx_values.specs.Assigned.{assigned}
use Rattle.cx_values.specs.declared.fault.ValueFault.{ValueFault}
use Rattle.cx_bind.specs.Parameters.{parameters}
use Rattle.cx_parfile.specs.declared.steer.SteerLine.{SteerLine}
use Rattle.cx_values.specs.Steering.{steer_fault, steps}
use Rattle.cx_values.specs.declared.steering.SteerStep.{SteerStep}
use Rattle.cx_values.specs.declared.values.Values.{Values}
use Rattle.cx_order.specs.Files.{Input, input_of}
use Rattle.cx_order.specs.declared.ordered.Ordered.{Ordered}
use Rattle.cx_order.specs.declared.fault.OrderFault.TheVariants as orders
use Rattle.cx_rule.specs.declared.spec.Spec.{Spec}
use Rattle.cx_disk.specs.Cause.{Rose, HasCause}
use Rattle.cx_job.specs.declared.fault.JobFault.{JobFault}
use Rattle.cx_job.specs.declared.fault.JobFault.TheVariants as faults
use Rattle.cx_job_files.specs.declared.configuring.Configured.{Configured}
use Rattle.cx_job_files.specs.Shelf.{Held}
use Rattle.cx_cut.specs.Faults.{parts_of, cut_fault}
use Rattle.cx_cut.specs.declared.faults.CutFault.{CutFault}
use Rattle.cx_job.specs.LocalCells.{local_cells, items_run}
use Rattle.cx_job.specs.Caps.{greatest_part, too_large, cap_fault, caps_fault}
use Rattle.cx_job.specs.Jobs.{job_of, steered_job}
use Rattle.cx_job.specs.Outputs.{output_variables}
use Rattle.cx_job.specs.Weights.{weight_fault}
use Rattle.cx_scope.specs.declared.fault.ScopeFault.{ScopeFault}
use Rattle.cx_job.specs.JobLimits.{over, writes_fault, reads_fault, parameters_fault, each_limit, item_limits, points_fault, cells_fault, grid_limits, key_limit, limit_fault, run_count}
use Rattle.cx_job_files.specs.declared.fault.ConfigFault.{ConfigFault}
use Rattle.cx_job_files.specs.declared.fault.ConfigFault.TheVariants as configs
use Rattle.cx_job_files.specs.Reading.{Follows, SaysSteers}
use Rattle.cx_job_values.specs.RunNumbers.{steer_file}
use Rattle.cx_job_files.proofs.Settled.{same_fault}
use Rattle.cx_job_items.specs.declared.fault.MatchFault.{MatchFault}
use Rattle.cx_job_items.specs.declared.fault.MatchFault.TheVariants as matches
use Rattle.cx_job.specs.Faults.{config_fault, match_fault}
use Rattle.cx_text.specs.Telling.{Stage, Then, Tells}
use Rattle.cx_job_files.specs.Stages.{Is, unless, or_fault, Raised}
use Rattle.cx_job_files.specs.Configuring.{Configures}
use Rattle.cx_job.specs.Making.{Orders, Matches, Accepts, CutAnd, part_limits, cut_limits, within_cut, LimitsAnd, ItemsAnd, weight_limit, within_weight, WeightAnd, OutputsAnd, PlanAnd, steered_steps, StepsAnd, SteersAnd, bound_thorns, assigned_values, MadeOf, Made, Reaches, Makes, Yields, output_ids, key_within, within_limits}
use Rattle.cx_job.proofs.OnlyJob.{Comes, only_job, only_fault}
use Rattle.cx_text.specs.Numbers.{in_64_bits}

abbrev err : (A : Type 0) → JobFault → Result A JobFault
err A e = Err e

abbrev okay : (A : Type 0) → A → Result A ConfigFault
okay A x = Ok x

abbrev unread : (A : Type 0) → ConfigFault → Result A ConfigFault
unread A e = Err e

-- ---- two stages

moved : (A B : Type 0) (e f : JobFault) → err B e ≡ err B f → err A e ≡ err A f
moved A B e f h = let same : e ≡ f = cc in ap (err A) same

pub yields_halt : {A B : Type 0} (p : Stage A JobFault) (q : A → Stage B JobFault) (e : JobFault)
    → Yields p (err A e) → Yields (Then p q) (err B e)
yields_halt {A} {B} p q e (inl m) = inl (moved B A e faults.Memory m)
yields_halt {A} {B} p q e (inr s) = inr (inl (e, s, refl))

pub yields_pass : {A B : Type 0} (p : Stage A JobFault) (q : A → Stage B JobFault) (x : A)
    (r : Result B JobFault) → Yields p (Ok x) → Yields (q x) r → Yields (Then p q) r
yields_pass p q x r (inl m) b = absurd cc
yields_pass p q x r (inr s) (inl m) = inl m
yields_pass p q x r (inr s) (inr t) = inr (inr (x, s, t))

-- the value of a stage without a fault
pub unless_ok : {A : Type 0} (o : Option JobFault) (x y : A) → Yields (Is (unless o x)) (Ok y)
    → (o ≡ None) × (y ≡ x)
unless_ok None x y (inl m) = absurd cc
unless_ok None x y (inr s) = (refl, cc)
unless_ok (Some e) x y (inl m) = absurd cc
unless_ok (Some e) x y (inr s) = absurd cc

-- the second of two tests, where the first has found nothing
pub told_second : {A : Type 0} (a b : Option JobFault) (r : Result A JobFault) → a ≡ None
    → Tells faults.Memory b r → Tells faults.Memory (or_else a b) r
told_second None b r none told = told
told_second (Some e) b r none told = absurd cc

-- a stage that has given its value
pub yields_ok : {A : Type 0} (p : Stage A JobFault) (x : A) → Yields p (Ok x) → p (Ok x)
yields_ok p x (inl m) = absurd cc
yields_ok p x (inr s) = s

-- ---- no stage behind the files tells that the shelf failed

abbrev NotShelf : Option JobFault → Type 0
NotShelf o = o ≢ Some faults.Shelf

then_not : {A B : Type 0} (p : Stage A JobFault) (q : A → Stage B JobFault)
    → (p (err A faults.Shelf) → ⊥) → ((x : A) → q x (err B faults.Shelf) → ⊥)
    → Then p q (err B faults.Shelf) → ⊥
then_not {A} {B} p q first second (inl (e, s, z)) =
    (let same : e ≡ faults.Shelf = cc in first (subst (λ f. p (err A f)) same s))
then_not p q first second (inr (x, s, t)) = second x t

unless_not : {A : Type 0} (o : Option JobFault) (x : A) → NotShelf o
    → err A faults.Shelf ≡ unless o x → ⊥
unless_not None x other z = absurd cc
unless_not (Some e) x other z = other (let same : e ≡ faults.Shelf = cc in ap (λ f. Some f) same)

bind_not : (o : Option BindFault) → NotShelf (option_map faults.Bind o)
bind_not None z = absurd cc
bind_not (Some e) z = absurd cc

value_not : (o : Option ValueFault) → NotShelf (option_map faults.Value o)
value_not None z = absurd cc
value_not (Some e) z = absurd cc

steer_not : (name : List ℕ) (o : Option ValueFault) → NotShelf (option_map (faults.Steer name) o)
steer_not name None z = absurd cc
steer_not name (Some e) z = absurd cc

weight_not : (o : Option ScopeFault)
    → NotShelf (option_map (λ f. faults.Order (orders.Scope (codes "weight") f)) o)
weight_not None z = absurd cc
weight_not (Some f) z = absurd cc

or_fault_not : {A F : Type 0} (as_job : F → JobFault) (r : Result A F)
    → ((f : F) → as_job f ≢ faults.Shelf) → err A faults.Shelf ≡ or_fault as_job r → ⊥
or_fault_not as_job (Ok x) other z = absurd cc
or_fault_not as_job (Err f) other z = other f (let same : faults.Shelf ≡ as_job f = cc in sym same)

-- ---- limits

or_else_not : (a b : Option JobFault) → NotShelf a → NotShelf b → NotShelf (or_else a b)
or_else_not None b first second = second
or_else_not (Some e) b first second = first

each_not : {X : Type 0} (f : X → Option JobFault) (xs : List X) → ((x : X) → NotShelf (f x))
    → NotShelf (first_of_each f xs)
each_not f [] all = λ z. absurd cc
each_not f (x ∷ xs) all = or_else_not (f x) (first_of_each f xs) (all x) (each_not f xs all)

over_not : (what : List ℕ) (number limit : ℕ) → NotShelf (over what number limit)
over_not what number limit = by (nat_lt limit number)
  where
    by : (b : Bool) → NotShelf (if b then Some (faults.Limit what (in_64_bits number)) else None)
    by true z = absurd cc
    by false z = absurd cc

each_limit_not : (items : List Item) → NotShelf (each_limit items)
each_limit_not items =
    or_else_not (first_of_each writes_fault items)
    (or_else (first_of_each reads_fault items) (first_of_each parameters_fault items))
    (each_not writes_fault items (λ x. over_not _ _ _))
    (or_else_not (first_of_each reads_fault items) (first_of_each parameters_fault items)
    (each_not reads_fault items (λ x. over_not _ _ _))
    (each_not parameters_fault items (λ x. over_not _ _ _)))

limits_not : (run : ℕ) (job : Job) → NotShelf (limit_fault run job.items job.shape job.vars job.key)
limits_not run job =
    or_else_not (item_limits run job.items)
    (or_else (grid_limits job.shape job.vars) (key_limit job.key))
    (each_limit_not (take run job.items))
    (or_else_not (grid_limits job.shape job.vars) (key_limit job.key)
    (or_else_not (points_fault job.shape) (cells_fault job.shape job.vars) (over_not _ _ _)
    (over_not _ _ _)) (over_not _ _ _))

-- ---- items

match_not : (f : MatchFault) → match_fault f ≢ faults.Shelf
match_not (matches.UnknownRoutine path) z = absurd cc
match_not (matches.RoutineMismatch path declared offered) z = absurd cc
match_not matches.Memory z = absurd cc

cut_not : (o : Option CutFault) → NotShelf (option_map faults.Cut o)
cut_not None z = absurd cc
cut_not (Some e) z = absurd cc

object_not : (points : ℕ) (path : List ℕ) (o : Option Spec) → NotShelf (too_large points path o)
object_not points path None = λ z. absurd cc
object_not points path (Some s) = by (nat_lt s.cap points)
  where
    by : (b : Bool) → NotShelf (if b then Some (faults.TooLarge path points s.cap) else None)
    by true z = absurd cc
    by false z = absurd cc

caps_not : (specs : List Spec) (job : Job) → NotShelf (caps_fault specs job)
caps_not specs job =
    let points : ℕ = greatest_part (parts_of job.shape job.cut) in
    each_not (cap_fault specs points) (items_run job)
    (λ x. object_not points x.path (slice_get specs x.routine))

cut_limits_not : (specs : List Spec) (job : Job) → NotShelf (cut_limits specs job)
cut_limits_not specs job =
    or_else_not (option_map faults.Cut (cut_fault (parts_of job.shape job.cut)))
    (part_limits specs job) (cut_not _)
    (or_else_not (over (codes "local cells") (local_cells job) (2 ^ 27)) (caps_fault specs job)
    (over_not _ _ _) (caps_not specs job))

-- ---- all stages

accepts_not : (job : Job) → Accepts job (err Job faults.Shelf) → ⊥
accepts_not job (fault, is, other, told) = absurd cc

cut_and_not : (specs : List Spec) (job : Job) → CutAnd specs job (err Job faults.Shelf) → ⊥
cut_and_not specs job = then_not (Is (within_cut specs job)) Accepts
    (unless_not (cut_limits specs job) job (cut_limits_not specs job)) accepts_not

limits_and_not : (specs : List Spec) (run : ℕ) (job : Job)
    → LimitsAnd specs run job (err Job faults.Shelf) → ⊥
limits_and_not specs run job =
    then_not (Is (within_limits run job)) (CutAnd specs)
    (unless_not (limit_fault run job.items job.shape job.vars job.key) job (limits_not run job))
    (cut_and_not specs)

module _ (specs : List Spec) where
  items_not : (thorns : List Thorn) (values : Values) (ordered : Ordered)
      → Matches thorns values specs ordered (err (List Item) faults.Shelf) → ⊥
  items_not thorns values ordered m = or_fault_not match_fault _ match_not m.items

  items_and_not : (ss : List SteerStep) (thorns : List Thorn) (values : Values) (ordered : Ordered)
      (out_vars : List VarId)
      → ItemsAnd specs ss thorns values ordered out_vars (err Job faults.Shelf) → ⊥
  items_and_not ss thorns values ordered out_vars =
      then_not (Matches thorns values specs ordered)
      (λ items. LimitsAnd specs (run_count ordered.plan)
      (steered_job specs (parameters thorns) ss (job_of thorns values ordered items out_vars)))
      (items_not thorns values ordered)
      (λ items. limits_and_not specs (run_count ordered.plan)
      (steered_job specs (parameters thorns) ss (job_of thorns values ordered items out_vars)))

  weight_and_not : (ss : List SteerStep) (thorns : List Thorn) (values : Values)
      (ordered : Ordered) (out_vars : List VarId)
      → WeightAnd specs ss thorns values ordered out_vars (err Job faults.Shelf) → ⊥
  weight_and_not ss thorns values ordered out_vars =
      then_not (Is (within_weight thorns values ordered.storage out_vars))
      (ItemsAnd specs ss thorns values ordered)
      (unless_not (weight_limit thorns values ordered.storage) out_vars
      (weight_not (weight_fault thorns values ordered.storage)))
      (items_and_not ss thorns values ordered)

  outputs_not : (ss : List SteerStep) (thorns : List Thorn) (values : Values) (ordered : Ordered)
      → OutputsAnd specs ss thorns values ordered (err Job faults.Shelf) → ⊥
  outputs_not ss thorns values ordered =
      then_not (Is (output_ids thorns values ordered.storage))
      (WeightAnd specs ss thorns values ordered)
      (or_fault_not (λ f. faults.Order (orders.Scope (codes "output") f))
      (output_variables thorns values ordered.storage) (λ f z. absurd cc))
      (weight_and_not ss thorns values ordered)

  order_not : (input : Input) → Orders input (err Ordered faults.Shelf) → ⊥
  order_not input (fault, is, other, told) = absurd cc

  plan_not : (schedules : List ScheduleFile) (thorns : List Thorn) (values : Values)
      (ss : List SteerStep) → PlanAnd specs schedules thorns values ss (err Job faults.Shelf) → ⊥
  plan_not schedules thorns values ss =
      then_not (Orders (input_of thorns schedules values)) (OutputsAnd specs ss thorns values)
      (order_not (input_of thorns schedules values)) (outputs_not ss thorns values)

  steps_not : (schedules : List ScheduleFile) (thorns : List Thorn) (values : Values)
      (lines : List SteerLine) → StepsAnd specs schedules thorns values lines (err Job faults.Shelf)
      → ⊥
  steps_not schedules thorns values lines =
      then_not (Is (steered_steps (steer_file values) thorns values lines))
      (PlanAnd specs schedules thorns values)
      (unless_not (option_map (faults.Steer (steer_file values)) (steer_fault thorns values lines))
      (steps thorns lines) (steer_not (steer_file values) (steer_fault thorns values lines)))
      (plan_not schedules thorns values)

  steps_yield_not : (schedules : List ScheduleFile) (thorns : List Thorn) (values : Values)
      (lines : List SteerLine) (r : Result Job JobFault)
      → Yields (StepsAnd specs schedules thorns values lines) r → r ≢ err Job faults.Shelf
  steps_yield_not schedules thorns values lines r (inl m) z = absurd cc
  steps_yield_not schedules thorns values lines r (inr s) z =
      steps_not schedules thorns values lines
      (subst (λ (v : Result Job JobFault). StepsAnd specs schedules thorns values lines v) z s)

-- ---- over a shelf

-- only a failure of the shelf is told as one
shelf_only : (e : ConfigFault) → config_fault e ≡ faults.Shelf → e ≡ configs.Shelf
shelf_only configs.Shelf z = refl
shelf_only (configs.NoFile name) z = absurd cc
shelf_only (configs.Text name fault) z = absurd cc
shelf_only (configs.Ccl name fault) z = absurd cc
shelf_only (configs.Bind fault) z = absurd cc
shelf_only configs.Memory z = absurd cc

since : {A : Type 0} (before now : ℕ) (x : A) (r : Result Job JobFault)
    → HasCause configs.Shelf before now (okay A x) → r ≢ err Job faults.Shelf
    → HasCause faults.Shelf before now r
since before now x (Ok v) cause other = record { later = cause.later; failed = λ z. absurd cc }
since before now x (Err e) cause other =
    record { later = cause.later; failed = λ z. absurd (other z) }

raised_cause : (A : Type 0) (before now : ℕ) (e : ConfigFault)
    → HasCause configs.Shelf before now (unread A e)
    → HasCause faults.Shelf before now (err Job (config_fault e))
raised_cause A before now e cause = record {
  later = cause.later;
  failed = λ z. cause.failed
      (ap (unread A) (shelf_only e (same_fault Job (config_fault e) faults.Shelf z)));
}

-- an answer is what a stage comes to, but for want of memory and failures of the shelf
abbrev Meets : Stage Job JobFault → Result Job JobFault → Type 0
Meets stage r = (r ≡ err Job faults.Memory) ⊎ (r ≡ err Job faults.Shelf) ⊎ stage r

-- where the files were read
passed : {A : Type 0} (p : Stage A ConfigFault) (q : A → Stage Job JobFault) (x : A)
    (r : Result Job JobFault)
    → (okay A x ≡ unread A configs.Memory) ⊎ (okay A x ≡ unread A configs.Shelf) ⊎ p (Ok x)
    → Meets (q x) r → Meets (Then (Raised config_fault p) q) r
passed p q x r (inl m) b = absurd cc
passed p q x r (inr (inl m)) b = absurd cc
passed p q x r (inr (inr s)) (inl m) = inl m
passed p q x r (inr (inr s)) (inr (inl m)) = inr (inl m)
passed p q x r (inr (inr s)) (inr (inr t)) = inr (inr (inr (x, s, t)))

-- where they weren't
halted : {A : Type 0} (p : Stage A ConfigFault) (q : A → Stage Job JobFault) (e : ConfigFault)
    → (unread A e ≡ unread A configs.Memory) ⊎ (unread A e ≡ unread A configs.Shelf) ⊎ p (Err e)
    → Meets (Then (Raised config_fault p) q) (err Job (config_fault e))
halted {A} p q e (inl m) =
    inl (ap (λ (f : ConfigFault). err Job (config_fault f)) (same_fault A e configs.Memory m))
halted {A} p q e (inr (inl m)) =
    inr (inl (ap (λ (f : ConfigFault). err Job (config_fault f)) (same_fault A e configs.Shelf m)))
halted p q e (inr (inr s)) = inr (inr (inl (config_fault e, (e, refl, s), refl)))

-- before a file is read
pub reaches_memory : (tells : Type 0) (stage : Held → Stage Job JobFault) (h : Held) (f : ℕ)
    → Reaches tells stage h h f f (err Job faults.Memory)
reaches_memory tells stage h f = record {
  answers = λ t. inl refl;
  same = λ t. refl;
  cause = record { later = omega arith; failed = λ z. absurd cc };
}

-- a stage without files, and then one with them
module _ {A : Type 0} (p : Stage A JobFault) (q : Held → A → Stage Job JobFault) (tells : Type 0)
  where
    pub reaches_halt : (h : Held) (f : ℕ) (e : JobFault) → Yields p (err A e)
        → (p (err A faults.Shelf) → ⊥)
        → Reaches tells (λ files. Then p (q files)) h h f f (err Job e)
    reaches_halt h f e (inl m) other =
        subst (λ e. Reaches tells (λ files. Then p (q files)) h h f f (err Job e))
        (sym (same_fault A e faults.Memory m))
        (reaches_memory tells (λ files. Then p (q files)) h f)
    reaches_halt h f e (inr s) other = record {
      answers = λ t. inr (inr (inl (e, s, refl)));
      same = λ t. refl;
      cause = record {
        later = omega arith;
        failed = λ z. absurd (other (subst (λ e. p (err A e)) (same_fault Job e faults.Shelf z) s));
      };
    }

    behind : (files : Held) (x : A) (r : Result Job JobFault) → p (Ok x) → Meets (q files x) r
        → Meets (Then p (q files)) r
    behind files x r s (inl m) = inl m
    behind files x r s (inr (inl m)) = inr (inl m)
    behind files x r s (inr (inr t)) = inr (inr (inr (x, s, t)))

    pub reaches_pass : (h0 h1 : Held) (f0 f1 : ℕ) (x : A) (r : Result Job JobFault)
        → Yields p (Ok x) → Reaches tells (λ files. q files x) h0 h1 f0 f1 r
        → Reaches tells (λ files. Then p (q files)) h0 h1 f0 f1 r
    reaches_pass h0 h1 f0 f1 x r (inl m) reached = absurd cc
    reaches_pass h0 h1 f0 f1 x r (inr s) reached = record {
      answers = λ t. behind h0 x r s (reached.answers t);
      same = reached.same;
      cause = reached.cause;
    }

-- the steer file, and what follows it
module _ (specs : List Spec) (schedules : List ScheduleFile) (thorns : List Thorn) (values : Values)
    (tells : Type 0) (h0 h1 : Held) (f0 f1 : ℕ) where
  abbrev steers_stage : Held → Stage Job JobFault
  steers_stage files = SteersAnd specs files schedules thorns values

  met : (r : Result Job JobFault) (stage : Stage Job JobFault) → Yields stage r → Meets stage r
  met r stage (inl m) = inl m
  met r stage (inr s) = inr (inr s)

  pub steers_halt : (e : ConfigFault)
      → Follows tells (SaysSteers (steer_file values)) h0 h1 f0 f1 (Err e)
      → Reaches tells steers_stage h0 h1 f0 f1 (err Job (config_fault e))
  steers_halt e followed = record {
    answers = λ t. halted (SaysSteers (steer_file values) h0)
        (StepsAnd specs schedules thorns values) e (followed.answers t);
    same = followed.same;
    cause = raised_cause (List SteerLine) f0 f1 e followed.cause;
  }

  pub steers_pass : (lines : List SteerLine) (r : Result Job JobFault)
      → Follows tells (SaysSteers (steer_file values)) h0 h1 f0 f1 (Ok lines)
      → Yields (StepsAnd specs schedules thorns values lines) r
      → Reaches tells steers_stage h0 h1 f0 f1 r
  steers_pass lines r followed yielded = record {
    answers = λ t. passed (SaysSteers (steer_file values) h0)
        (StepsAnd specs schedules thorns values) lines r (followed.answers t)
        (met r (StepsAnd specs schedules thorns values lines) yielded);
    same = followed.same;
    cause = since f0 f1 lines r followed.cause
        (steps_yield_not specs schedules thorns values lines r yielded);
  }

-- from a configuration on
pub bound_not : (thorns : List Thorn) → Is (bound_thorns thorns) (err (List Thorn) faults.Shelf) → ⊥
bound_not thorns = unless_not (option_map faults.Bind (bind_fault thorns)) thorns
    (bind_not (bind_fault thorns))

pub values_not : (thorns : List Thorn) (settings : List Setting)
    → Is (assigned_values thorns settings) (err Values faults.Shelf) → ⊥
values_not thorns settings =
    unless_not (option_map faults.Value (assign_fault thorns settings)) (assigned thorns settings)
    (value_not (assign_fault thorns settings))

less_min : (a b c most : ℕ) → a ≤ b → min (b + 1) most ≤ c → min (a + 1) most ≤ c
less_min a b c most first rose = omega (arith, first, rose)

rose_more : (a b c : ℕ) → a ≤ b → Rose b c → Rose a c
rose_more a b c first rose = less_min a b c (2 ^ 64 - 1) first rose

-- all files
module _ (specs : List Spec) (tells : Type 0) (name : List ℕ) where
  -- what the files make is one
  makes_of : (h0 h1 : Held) (f0 f1 : ℕ) (r : Result Job JobFault)
      → (tells → Comes h0 name specs r) → (tells → h1 ≡ h0) → HasCause faults.Shelf f0 f1 r
      → Makes tells (Made name specs) h0 h1 f0 f1 r
  makes_of h0 h1 f0 f1 r answers same cause = record {
    answers = answers;
    only = λ t. only_job h0 name specs r (answers t);
    faulty = λ t. only_fault h0 name specs r (answers t);
    same = same;
    cause = cause;
  }

  pub makes_pass : (h0 h1 h2 : Held) (f0 f1 f2 : ℕ) (c : Configured) (r : Result Job JobFault)
      → Follows tells (Configures name) h0 h1 f0 f1 (Ok c)
      → Reaches tells (λ files. MadeOf specs files c) h1 h2 f1 f2 r
      → Makes tells (Made name specs) h0 h2 f0 f2 r
  makes_pass h0 h1 h2 f0 f1 f2 c r a b =
      makes_of h0 h2 f0 f2 r
      (λ t. passed (Configures name h0) (MadeOf specs h0) c r (a.answers t)
      (subst (λ files. Meets (MadeOf specs files c) r) (a.same t) (b.answers t)))
      (λ t. b.same t ∙ a.same t)
      (record {
        later = at_last f0 f1 f2 a.cause.later b.cause.later;
        failed = λ z. rose_more f0 f1 f2 a.cause.later (b.cause.failed z);
      })
    where
      at_last : (a b c : ℕ) → a ≤ b → b ≤ c → a ≤ c
      at_last a b c first second = omega (arith, first, second)

  pub makes_halt : (h0 h1 : Held) (f0 f1 : ℕ) (e : ConfigFault)
      → Follows tells (Configures name) h0 h1 f0 f1 (Err e)
      → Makes tells (Made name specs) h0 h1 f0 f1 (err Job (config_fault e))
  makes_halt h0 h1 f0 f1 e a =
      makes_of h0 h1 f0 f1 (err Job (config_fault e))
      (λ t. halted (Configures name h0) (MadeOf specs h0) e (a.answers t)) a.same
      (raised_cause Configured f0 f1 e a.cause)

  pub makes_memory : (h : Held) (f : ℕ)
      → Makes tells (Made name specs) h h f f (err Job faults.Memory)
  makes_memory h f =
      makes_of h h f f (err Job faults.Memory) (λ t. inl refl) (λ t. refl)
      (record { later = omega arith; failed = λ z. absurd cc })

-- ---- the limits, one after another

-- the limits before the key's, and then the key's
pub key_told : (run : ℕ) (job : Job) (r : Result Job JobFault) → item_limits run job.items ≡ None
    → grid_limits job.shape job.vars ≡ None → Yields (Is (key_within job)) r
    → Yields (Is (within_limits run job)) r
key_told run job r items grid (inl m) = inl m
key_told run job r items grid (inr is) =
    inr
    (is
    ∙ sym (ap (λ (o : Option JobFault).
    unless (or_else o (or_else (grid_limits job.shape job.vars) (key_limit job.key))) job) items
    ∙ ap (λ (o : Option JobFault). unless (or_else o (key_limit job.key)) job) grid))

-- a job whose key is too long
pub key_fault_told : (job : Job) (e : JobFault) → (e ≡ faults.Memory) ⊎ (key_limit job.key ≡ Some e)
    → Yields (Is (key_within job)) (err Job e)
key_fault_told job e (inl m) = inl (ap (err Job) m)
key_fault_told job e (inr key) =
    inr (sym (ap (λ (o : Option JobFault). unless o job) key))
