-- What the stages from thorns to a job make sure of.
use Rattle.std.proofs.Common.{◌≡◌, ◌∙◌, sym, ap, subst, refl, ◌<◌, ◌≤◌, ◌+◌, ◌^◌, ◌⊎◌, inl, inr, ℕ, List, [], ◌∷◌, ◌++◌, map, length, take, get_or, codes, Option, Some, None, Result, Ok, Err, IfOk, arith}
use Rattle.std.specs.Prelude.{option_map, All}
use Rattle.std.proofs.lemmas.List.{map-append, take_more}
use Rattle.cx_plan.specs.Setups.{setup_of}
use Rattle.cx_plan.specs.Regions.{HasShapes, run_items}
use Rattle.cx_plan.specs.Paths.{Sound}
use Rattle.cx_plan.specs.Whole.{IsWhole}
use Rattle.cx_plan.specs.declared.item.Item.{Item}
use Rattle.cx_plan.specs.declared.job.Job.{Job}
use Rattle.cx_plan.specs.declared.variable.VarId.{VarId}
use Rattle.cx_sched.specs.declared.tree.ScheduleFile.{ScheduleFile}
use Rattle.cx_bind.specs.Variables.{variable_infos}
use Rattle.cx_bind.specs.declared.thorns.Thorn.{Thorn}
use Rattle.cx_bind.specs.Parameters.{parameters}
use Rattle.cx_parfile.specs.declared.steer.SteerLine.{SteerLine}
use Rattle.cx_values.specs.Steering.{steer_fault, steps}
use Rattle.cx_values.specs.declared.steering.SteerStep.{SteerStep}
use Rattle.cx_values.specs.declared.values.Values.{Values}
use Rattle.cx_scope.specs.Sight.{Sight, IsSightOf}
use Rattle.cx_order.specs.Files.{input_of}
use Rattle.cx_order.specs.Meanings.{World}
use Rattle.cx_order.specs.declared.ordered.Ordered.{Ordered}
use Rattle.cx_rule.specs.declared.spec.Spec.{Spec}
use Rattle.cx_cut.specs.Faults.{parts_of, cut_fault}
use Rattle.cx_job.specs.declared.fault.JobFault.{JobFault}
use Rattle.cx_job.specs.declared.fault.JobFault.TheVariants as faults
use Rattle.cx_plan.specs.Lists.{or_else, first_of_each}
use Rattle.cx_job.specs.JobLimits.{over, writes_fault, reads_fault, parameters_fault, item_limits, limit_fault, run_count}
use Rattle.cx_job.specs.LocalCells.{local_cells}
use Rattle.cx_job.specs.Caps.{caps_fault}
use Rattle.cx_job.specs.Keys.{step_lines}
use Rattle.cx_job.specs.Jobs.{job_of, steered_job}
use Rattle.cx_job.specs.Outputs.{output_variables}
use Rattle.cx_job.specs.Weights.{weight_fault}
use Rattle.cx_job_items.specs.Matching.{all_matched}
use Rattle.cx_text.specs.Telling.{Answers}
use Rattle.cx_job_items.specs.declared.fault.MatchFault.TheVariants as matches
use Rattle.cx_job_files.specs.NamesAndLevels.{AreRead}
use Rattle.cx_job_items.specs.declared.fault.MatchFault.{MatchFault}
use Rattle.cx_job.specs.Faults.{match_fault}
use Rattle.cx_job_files.specs.Stages.{Is, unless, or_fault}
use Rattle.cx_job.specs.Making.{Orders, Matches, CutAnd, part_limits, cut_limits, LimitsAnd, ItemsAnd, weight_limit, within_weight, WeightAnd, OutputsAnd, PlanAnd, steered_steps, StepsAnd, Yields, IsReady, IsPlanned, output_ids, within_limits}
use Rattle.cx_job.proofs.MakingLaws.{yields_halt, yields_pass, yields_ok, unless_ok}
use Rattle.cx_job_values.specs.RunNumbers.{steer_file}
use Rattle.cx_job.proofs.SteerLaws.{steps_later}
use Rattle.cx_job_values.proofs.NoneLaws.{first_none, second_none}
use Rattle.cx_job.proofs.WholeJobs.{is_whole, not_over}
use Rattle.cx_job.proofs.MeantLaws.{all_none}
use Rattle.cx_job.proofs.KeyNameLaws.{KeyNames, key_names, short_names}
use Rattle.cx_job.proofs.FitLaws.{fits}
use Rattle.cx_job.proofs.CapLaws.{IsRunWith, job_fits}

abbrev err : (A : Type 0) → JobFault → Result A JobFault
err A e = Err e

-- ---- what objects say of themselves

-- what is kept of the first ones, with one more
pub kept_one : {X Y Z : Type 0} (f : X → Z) (g : Y → Z) (xs xs2 : List X) (x : X) (ys : List Y)
    (k : ℕ) (y : Y) → k < length ys → y ≡ get_or ys k y → f x ≡ g y → map f xs ≡ map g (take k ys)
    → xs2 ≡ xs ++ x ∷ [] → map f xs2 ≡ map g (take (k + 1) ys)
kept_one f g xs xs2 x ys k y within at one before after =
    ap (map f) after ∙ map-append f xs (x ∷ []) ∙ ap (λ zs. zs ++ f x ∷ []) before
    ∙ ap (λ z. map g (take k ys) ++ z ∷ []) one
    ∙ ap (λ v. map g (take k ys) ++ g v ∷ []) at
    ∙ sym (map-append g (take k ys) (get_or ys k y ∷ []))
    ∙ ap (map g) (sym (take_more ys k y within))

-- ---- items within their limits

fewer : (n : ℕ) → n ≤ 32 → n ≤ 2 ^ 32
fewer n few = omega (arith, few)

pub short_params : (run : ℕ) (items : List Item) → item_limits run items ≡ None
    → All (λ (x : Item). length x.params ≤ 2 ^ 32) (take run items)
short_params run items none k d within =
    let first : List Item = take run items in
    let behind = second_none (first_of_each writes_fault first)
    (or_else (first_of_each reads_fault first) (first_of_each parameters_fault first)) none in
    fewer (length (get_or first k d).params)
    (not_over (codes "parameters") (length (get_or first k d).params) 32
    (all_none parameters_fault first
    (second_none (first_of_each reads_fault first) (first_of_each parameters_fault first) behind)
    k d within))

-- ---- items by what the thorns see

module _ (thorns : List Thorn) (values : Values) (specs : List Spec) (ordered : Ordered)
    (sight : Sight) (run : ℕ) (items : List Item) where
  abbrev w : World
  w = record { thorns = thorns; sight = sight; storage = ordered.storage }

  same_items : run ≡ run_count ordered.plan → items ≡ ordered.items
      → all_matched w values specs run items
      ≡ all_matched w values specs (run_count ordered.plan) ordered.items
  same_items counted taken =
      ap (λ k. all_matched w values specs k items) counted
      ∙ ap (all_matched w values specs (run_count ordered.plan)) taken

  pub matches_of : IsSightOf thorns sight → run ≡ run_count ordered.plan → items ≡ ordered.items
      → (r : Result (List Item) MatchFault)
      → Answers matches.Memory (all_matched w values specs run items) r
      → Yields (Matches thorns values specs ordered) (or_fault match_fault r)
  matches_of told counted taken (Ok xs) is =
      inr (record {
        sight = sight;
        told = told;
        items = ap (or_fault match_fault) (sym is ∙ same_items counted taken);
      })
  matches_of told counted taken (Err e) (inl m) =
      inl (ap (λ (f : MatchFault). err (List Item) (match_fault f)) m)
  matches_of told counted taken (Err e) (inr is) =
      inr (record {
        sight = sight;
        told = told;
        items = ap (or_fault match_fault) (sym is ∙ same_items counted taken);
      })

-- ---- the job, of a plan whose items were taken out to be matched

module _ (specs : List Spec) (steps : List SteerStep) (thorns : List Thorn) (values : Values)
    (ordered : Ordered) (out_vars : List VarId) where
  abbrev job_by : List Item → Job
  job_by items =
      steered_job specs (parameters thorns) steps (job_of thorns values ordered items out_vars)

  abbrev limits : ℕ → Job → Option JobFault
  limits run job = limit_fault run job.items job.shape job.vars job.key

  module _ (left : Ordered) (run : ℕ) (items : List Item)
      (taken : left ≡ record ordered { items = [] }) (counted : run ≡ run_count ordered.plan) where
    abbrev job_left : Job
    job_left =
        steered_job specs (parameters thorns) steps (job_of thorns values left items out_vars)

    one_job : job_left ≡ job_by items
    one_job = ap (λ (o : Ordered).
        steered_job specs (parameters thorns) steps (job_of thorns values o items out_vars)) taken

    pub left_plan : left.plan ≡ ordered.plan
    left_plan = ap (λ (o : Ordered). o.plan) taken

    limits_too : (r : Result Job JobFault) → Yields (LimitsAnd specs run job_left) r
        → Yields (LimitsAnd specs (run_count ordered.plan) (job_by items)) r
    limits_too r here = subst (λ k. Yields (LimitsAnd specs k (job_by items)) r) counted
        (subst (λ j. Yields (LimitsAnd specs run j) r) one_job here)

    pub over_limits : (e : JobFault) → Yields (Matches thorns values specs ordered) (Ok items)
        → Yields (Is (within_limits run job_left)) (err Job e)
        → Yields (ItemsAnd specs steps thorns values ordered out_vars) (err Job e)
    over_limits e matches limited =
        yields_pass (Matches thorns values specs ordered)
        (λ items. LimitsAnd specs (run_count ordered.plan) (job_by items)) items (Err e) matches
        (limits_too (Err e) (yields_halt (Is (within_limits run job_left)) (CutAnd specs)
        e limited))

    pub items_made : (job : Job) (r : Result Job JobFault)
        → Yields (Matches thorns values specs ordered) (Ok items)
        → Yields (Is (within_limits run job_left)) (Ok job) → Yields (CutAnd specs job) r
        → Yields (ItemsAnd specs steps thorns values ordered out_vars) r
    items_made job r matches limited accepted =
        yields_pass (Matches thorns values specs ordered)
        (λ items. LimitsAnd specs (run_count ordered.plan) (job_by items)) items r matches
        (limits_too r (yields_pass (Is (within_limits run job_left)) (CutAnd specs)
        job r limited accepted))

    module _ (job : Job) (matches : Yields (Matches thorns values specs ordered) (Ok items))
        (limited : Yields (Is (within_limits run job_left)) (Ok job))
        (planned : IsPlanned thorns values ordered)
        (later : All (λ (step : SteerStep). 1 ≤ step.at) steps) where
      the_job : job ≡ job_by items
      the_job = (unless_ok (limits run job_left) job_left job limited).1 ∙ one_job

      none_over : limits (run_count ordered.plan) (job_by items) ≡ None
      none_over =
          subst (λ k. limits k (job_by items) ≡ None) counted
          (subst (λ j. limits run j ≡ None) one_job
          (unless_ok (limits run job_left) job_left job limited).0)

      pub whole_of : AreRead (variable_infos thorns)
          → output_variables thorns values ordered.storage ≡ Ok out_vars
          → weight_fault thorns values ordered.storage ≡ None → IsWhole job
      whole_of read outputs weighs =
          subst IsWhole (sym the_job)
          (is_whole thorns planned.files values specs steps ordered items out_vars
          (record {
            fit = planned.fit;
            planned = planned.plan;
            later = later;
            few = none_over;
            written = outputs;
            weighs = weighs;
          }) read
          (yields_ok (Matches thorns values specs ordered) items matches))

      pub run_of : All (IsRunWith specs job) (run_items (setup_of job))
      run_of =
          subst (λ (j : Job). All (IsRunWith specs j) (run_items (setup_of j))) (sym the_job)
          (fits thorns planned.files values specs steps ordered items out_vars planned.plan
          (yields_ok (Matches thorns values specs ordered) items matches))

      pub names_of : KeyNames job
      names_of = subst KeyNames (sym the_job)
          (key_names (job_by items) (job_by items).shape thorns values ordered.text
          (step_lines (parameters thorns) steps) refl)

pub unmapped : {F : Type 0} (told : F → JobFault) (o : Option F) → option_map told o ≡ None
    → o ≡ None
unmapped told None none = refl
unmapped told (Some e) none = absurd cc

pub ready_of : (specs : List Spec) (job : Job) (r : Result Job JobFault) → IsWhole job
    → All (IsRunWith specs job) (run_items (setup_of job)) → KeyNames job
    → Yields (CutAnd specs job) r → IfOk r (IsReady specs)
ready_of specs job (Err e) whole run names accepted = tt
ready_of specs job (Ok other) whole run names (inl m) = absurd cc
ready_of specs job (Ok other) whole run names (inr (inl (e, s, z))) = absurd cc
ready_of specs job (Ok other) whole run names (inr (inr (x, s, t))) =
    let cut = unless_ok (cut_limits specs job) job x (inr s) in
    let parts = option_map faults.Cut (cut_fault (parts_of job.shape job.cut)) in
    let cells = over (codes "local cells") (local_cells job) (2 ^ 27) in
    let none = second_none parts (part_limits specs job) cut.0 in
    subst (IsReady specs) (sym (t.0 ∙ cut.1))
    (record {
      whole = whole;
      shapes = subst (λ j. HasShapes (setup_of j)) cut.1 t.1;
      sound = subst (λ j. Sound (setup_of j)) cut.1 t.2;
      fit = job_fits specs job run (second_none cells (caps_fault specs job) none);
      cut = unmapped faults.Cut (cut_fault (parts_of job.shape job.cut))
          (first_none parts (part_limits specs job) cut.0);
      few_cells = not_over (codes "local cells") (local_cells job) (2 ^ 27)
          (first_none cells (caps_fault specs job) none);
      names = short_names job whole names;
    })

-- ---- the plan, the variables that are written, and the one that weighs

module _ (specs : List Spec) (schedules : List ScheduleFile) (thorns : List Thorn) (values : Values)
    (steps : List SteerStep) where
  pub unwritten : (ordered : Ordered) (e : JobFault)
      → Yields (Orders (input_of thorns schedules values)) (Ok ordered)
      → Yields (Is (output_ids thorns values ordered.storage)) (err (List VarId) e)
      → Yields (PlanAnd specs schedules thorns values steps) (err Job e)
  unwritten ordered e plan told =
      yields_pass (Orders (input_of thorns schedules values)) (OutputsAnd specs steps thorns values)
      ordered (Err e) plan (yields_halt (Is (output_ids thorns values ordered.storage))
      (WeightAnd specs steps thorns values ordered) e told)

  -- behind the plan and the variables that are written
  weight_made : (ordered : Ordered) (out_vars : List VarId) (r : Result Job JobFault)
      → Yields (Orders (input_of thorns schedules values)) (Ok ordered)
      → Yields (Is (output_ids thorns values ordered.storage)) (Ok out_vars)
      → Yields (WeightAnd specs steps thorns values ordered out_vars) r
      → Yields (PlanAnd specs schedules thorns values steps) r
  weight_made ordered out_vars r plan told made =
      yields_pass (Orders (input_of thorns schedules values)) (OutputsAnd specs steps thorns values)
      ordered r plan (yields_pass (Is (output_ids thorns values ordered.storage))
      (WeightAnd specs steps thorns values ordered) out_vars r told made)

  weight_told : (ordered : Ordered) (out_vars : List VarId) (e : JobFault)
      → (e ≡ faults.Memory) ⊎ (weight_limit thorns values ordered.storage ≡ Some e)
      → Yields (Is (within_weight thorns values ordered.storage out_vars)) (err (List VarId) e)
  weight_told ordered out_vars e (inl m) = inl (ap (err (List VarId)) m)
  weight_told ordered out_vars e (inr some) = inr (ap (λ o. unless o out_vars) (sym some))

  pub unweighed : (ordered : Ordered) (out_vars : List VarId) (e : JobFault)
      → Yields (Orders (input_of thorns schedules values)) (Ok ordered)
      → Yields (Is (output_ids thorns values ordered.storage)) (Ok out_vars)
      → (e ≡ faults.Memory) ⊎ (weight_limit thorns values ordered.storage ≡ Some e)
      → Yields (PlanAnd specs schedules thorns values steps) (err Job e)
  unweighed ordered out_vars e plan told fault =
      weight_made ordered out_vars (Err e) plan told
      (yields_halt (Is (within_weight thorns values ordered.storage out_vars))
      (ItemsAnd specs steps thorns values ordered) e (weight_told ordered out_vars e fault))

  pub plan_made : (ordered : Ordered) (out_vars : List VarId) (r : Result Job JobFault)
      → Yields (Orders (input_of thorns schedules values)) (Ok ordered)
      → Yields (Is (output_ids thorns values ordered.storage)) (Ok out_vars)
      → weight_limit thorns values ordered.storage ≡ None
      → Yields (ItemsAnd specs steps thorns values ordered out_vars) r
      → Yields (PlanAnd specs schedules thorns values steps) r
  plan_made ordered out_vars r plan told none made =
      weight_made ordered out_vars r plan told
      (yields_pass (Is (within_weight thorns values ordered.storage out_vars))
      (ItemsAnd specs steps thorns values ordered) out_vars r
      (inr (ap (λ o. unless o out_vars) (sym none))) made)

-- ---- the steps of the steer file

module _ (specs : List Spec) (schedules : List ScheduleFile) (thorns : List Thorn) (values : Values)
    (lines : List SteerLine) (name : List ℕ) (named : name ≡ steer_file values) where
  abbrev told : Result (List SteerStep) JobFault → Type 0
  told r = Yields (Is (steered_steps name thorns values lines)) r

  same_name : (r : Result (List SteerStep) JobFault) → told r
      → Yields (Is (steered_steps (steer_file values) thorns values lines)) r
  same_name r here =
      subst (λ (n : List ℕ). Yields (Is (steered_steps n thorns values lines)) r) named here

  pub unsteered : (e : JobFault) → told (err (List SteerStep) e)
      → Yields (StepsAnd specs schedules thorns values lines) (err Job e)
  unsteered e here =
      yields_halt (Is (steered_steps (steer_file values) thorns values lines))
      (PlanAnd specs schedules thorns values) e (same_name (Err e) here)

  pub steps_made : (ss : List SteerStep) (r : Result Job JobFault) → told (Ok ss)
      → Yields (PlanAnd specs schedules thorns values ss) r
      → Yields (StepsAnd specs schedules thorns values lines) r
  steps_made ss r here made =
      yields_pass (Is (steered_steps (steer_file values) thorns values lines))
      (PlanAnd specs schedules thorns values) ss r (same_name (Ok ss) here) made

  pub each_later : (ss : List SteerStep) → told (Ok ss)
      → All (λ (l : SteerLine). 1 ≤ l.at) lines → All (λ (s : SteerStep). 1 ≤ s.at) ss
  each_later ss here later =
      subst (All (λ (s : SteerStep). 1 ≤ s.at))
      (sym (unless_ok (option_map (faults.Steer name) (steer_fault thorns values lines))
      (steps thorns lines) ss here).1) (steps_later thorns lines later)

-- ---- the answer

-- what holds of a job that is ready
pub if_ready : (specs : List Spec) (P : Job → Type 0) (r : Result Job JobFault)
    → ((job : Job) → IsReady specs job → P job) → IfOk r (IsReady specs) → IfOk r P
if_ready specs P (Ok job) each ready = each job ready
if_ready specs P (Err e) each ready = tt
