-- Parameter files that differ only in starred parameters, and steer files that differ only in later
-- iterations, make jobs that are steered alike.
use Rattle.std.proofs.Common.{◌≡◌, sym, ◌∙◌, ap, subst, ℕ, ◌<◌, ◌≤◌, Bool, true, false, not, List, [], ◌∷◌, ◌++◌, take, Option, Some, None, Result, Ok, arith}
use Rattle.std.specs.Prelude.{slice_get}
use Rattle.std.specs.List.{flat_map, AllByRecursion}
use Rattle.std.proofs.Math.Path.{fun_ext}
use Rattle.cx_text.specs.Lexemes.{among}
use Rattle.cx_text.specs.declared.token.Style.TheVariants.{Par}
use Rattle.cx_text.proofs.Holds.{each-append}
use Rattle.cx_plan.specs.Setups.{Setup, setup_of}
use Rattle.cx_plan.specs.declared.item.Item.{Item}
use Rattle.cx_plan.specs.declared.job.Job.{Job}
use Rattle.cx_plan.specs.declared.variable.VarId.{VarId}
use Rattle.cx_plan.specs.Names.{with_owner}
use Rattle.cx_expr.specs.Known.{Names}
use Rattle.cx_parfile.specs.SteerFile.{steer_file as steer_grammar}
use Rattle.cx_parfile.specs.Values.{is_empty}
use Rattle.cx_parfile.specs.declared.settings.Setting.{Setting}
use Rattle.cx_parfile.specs.declared.steer.SteerLine.{SteerLine}
use Rattle.cx_sched.specs.declared.tree.ScheduleFile.{ScheduleFile}
use Rattle.cx_bind.specs.BuiltIn.{starred}
use Rattle.cx_bind.specs.Binding.{bind_fault}
use Rattle.cx_bind.specs.Parameters.{parameters}
use Rattle.cx_bind.specs.declared.thorns.Param.{Param}
use Rattle.cx_bind.specs.declared.thorns.Thorn.{Thorn}
use Rattle.cx_values.specs.Assigned.{assigned, held_named}
use Rattle.cx_values.specs.Naming.{names}
use Rattle.cx_values.specs.Steering.{step_of, step_at, step_by, steps}
use Rattle.cx_values.specs.declared.steering.SteerStep.{SteerStep}
use Rattle.cx_values.specs.declared.values.Values.{Values}
use Rattle.cx_order.specs.Files.{Input, input_of, counted_from, thorn_names}
use Rattle.cx_order.specs.Ordering.{IsPlan, world}
use Rattle.cx_order.specs.Plans.{forests}
use Rattle.cx_order.specs.declared.ordered.Ordered.{Ordered}
use Rattle.cx_order.proofs.OnlyPlan.{only}
use Rattle.cx_rule.specs.declared.spec.Spec.{Spec}
use Rattle.cx_job_items.proofs.OnlyMatched.{all-same}
use Rattle.cx_job_items.specs.Steered.{steers_of}
use Rattle.cx_job_values.specs.RunNumbers.{steer_file}
use Rattle.cx_job_files.specs.declared.configuring.Configured.{Configured}
use Rattle.cx_job_files.specs.Shelf.{Held}
use Rattle.cx_job_files.specs.Stages.{Raised, or_fault}
use Rattle.cx_job_files.specs.Configuring.{Configures}
use Rattle.cx_job_files.specs.Reading.{SaysSteers, SaysSteersIf, Tokens, Tree}
use Rattle.cx_job_files.specs.declared.fault.ConfigFault.{ConfigFault}
use Rattle.cx_job.specs.declared.fault.JobFault.{JobFault}
use Rattle.cx_job.specs.Faults.{config_fault, match_fault}
use Rattle.cx_job.specs.Jobs.{job_of, steered_job}
use Rattle.cx_job.specs.Keys.{step_lines}
use Rattle.cx_job.specs.LocalCells.{items_run}
use Rattle.cx_job.specs.JobLimits.{run_count}
use Rattle.cx_job.specs.Making.{Matches, output_ids, MadeOf, Made}
use Rattle.cx_model.specs.Steers.{steered_as, steers_to}
use Rattle.cx_keep.specs.Agreement.{Agree}
use Rattle.law_course.specs.Starts.{AreAlikeTo}
use Rattle.law_restarts.specs.Settings.{other_settings}
use Rattle.law_restarts.specs.Chains.{AreChained, HaveSteersTo, lines_up_to}
use Rattle.law_restarts.proofs.GivenLaws.{named_same}
use Rattle.law_restarts.proofs.SightLaws.{finds_same}
use Rattle.law_restarts.proofs.JobLaws.{outputs_same, items_same, setup_same, one_key}
use Rattle.law_restarts.proofs.StageLaws.{then_ok, Pieces, pieces_of}
use Rattle.law_restarts.proofs.FileLaws.{configured_same}
use Rattle.law_restarts.proofs.ListLaws.{Each}
use Rattle.law_restarts.proofs.ParamNameLaws.{IsOneLine, parameters_named}
use Rattle.law_restarts.proofs.SteerFileLaws.{IsEarly, early_lines}
use Rattle.law_restarts.proofs.SteerKeyLaws.{EndsLine}
use Rattle.law_restarts.proofs.KeyLineLaws.{schedule_ends, key_ends, limit, steps_agree}
use Rattle.law_restarts.proofs.SteerStepLaws.{same_steps, same_steers}

abbrev okay : (A : Type 0) → A → Result A JobFault
okay A x = Ok x

one_value : (A : Type 0) (x y : A) → okay A x ≡ okay A y → x ≡ y
one_value A x y e = cc

-- ---- what is read and planned

abbrev read_lines : List SteerLine → Result (List SteerLine) ConfigFault
read_lines lines = Ok lines

ok_lines : (xs ys : List SteerLine) → read_lines xs ≡ read_lines ys → xs ≡ ys
ok_lines xs ys e = cc

-- the text of a plan is whole lines
plan_ends : (input : Input) (ordered : Ordered) → IsPlan input ordered → EndsLine ordered.text
plan_ends input ordered p =
    subst (λ (o : Ordered). EndsLine o.text) (sym p.is_planned)
    (schedule_ends (world input p.c p.sight) (forests p.c.entries p.orders))

-- the lines of a steer file
lines_early : (files : Held) (values : Values) (lines : List SteerLine)
    → SaysSteers (steer_file values) files (Ok lines) → AllByRecursion IsEarly lines
lines_early files values lines says = by (not (is_empty (steer_file values))) says
  where
    by : (b : Bool) → SaysSteersIf b (steer_file values) files (Ok lines)
        → AllByRecursion IsEarly lines
    by true said =
        let read = then_ok (Tokens Par (steer_file values) (files (steer_file values)))
        (Tree steer_grammar.derives (steer_file values)) lines said in
        early_lines read.0 lines read.2
    by false none = subst (AllByRecursion IsEarly) (sym (ok_lines lines [] none)) tt

small_step : (at : ℕ) → at ≤ 1000000 → at < limit
small_step at early = omega (arith, early)

small_steps : (thorns : List Thorn) (lines : List SteerLine) → AllByRecursion IsEarly lines
    → AllByRecursion (λ (s : SteerStep). s.at < limit) (steps thorns lines)
unfolding steps
small_steps thorns [] early = tt
small_steps thorns (l ∷ ls) early =
    each-append (λ (s : SteerStep). s.at < limit)
    (step_by (parameters thorns) (names thorns) l)
    (flat_map (step_by (parameters thorns) (names thorns)) ls)
    (by ((names thorns) (with_owner l.setting.owner l.setting.name)))
    (small_steps thorns ls early.1)
  where
    with_param : (n : ℕ) (o : Option Param)
        → AllByRecursion (λ (s : SteerStep). s.at < limit) (step_of l n o)
    with_param n None = tt
    with_param n (Some p) = (small_step l.at early.0, tt)

    by : (o : Option ℕ)
        → AllByRecursion (λ (s : SteerStep). s.at < limit) (step_at (parameters thorns) l o)
    by None = tt
    by (Some n) = with_param n (slice_get (parameters thorns) n)

-- ---- one configuration, with two lists of settings

module _ (thorns : List Thorn) (schedules : List ScheduleFile) (one other : List Setting)
    (same : other_settings thorns one ≡ other_settings thorns other)
    (named : Each IsOneLine (parameters thorns)) where
  abbrev a : Values
  a = assigned thorns one

  abbrev b : Values
  b = assigned thorns other

  agree : (full : List ℕ) (index : Option ℕ) → among starred full ≡ false
      → held_named a full index ≡ held_named b full index
  unfolding assigned
  agree full index none = named_same (parameters thorns) (names thorns)
      thorns one other same full index none

  -- the plan of the one is that of the other
  plan_moved : bind_fault thorns ≡ None → (ordered : Ordered)
      → IsPlan (input_of thorns schedules a) ordered → IsPlan (input_of thorns schedules b) ordered
  plan_moved fit ordered p =
      let seen : thorn_names b ≡ thorn_names a =
      fun_ext
      (λ n. fun_ext (λ name.
      fun_ext (λ index. sym (finds_same thorns fit one other same n name index)))) in
      record {
        c = p.c;
        sight = p.sight;
        orders = p.orders;
        are_orders = record {
          are_entries = record {
            counted = ap (λ (f : ℕ → Names). counted_from f 0 thorns schedules) seen
                ∙ p.are_orders.are_entries.counted;
            bins = p.are_orders.are_entries.bins;
            names = p.are_orders.are_entries.names;
          };
          groups = p.are_orders.groups;
          least = p.are_orders.least;
          told = p.are_orders.told;
        };
        scope = p.scope;
        limits = p.limits;
        is_planned = p.is_planned;
      }

  module _ (specs : List Spec) (ordered : Ordered) where
    one_list : (x y : List VarId) → Ok x ≡ output_ids thorns a ordered.storage
        → Ok y ≡ output_ids thorns b ordered.storage → x ≡ y
    one_list x y first second =
        one_value (List VarId) x y
        (first ∙ outputs_same a b agree thorns ordered.storage ∙ sym second)

    same_items : (x y : List Item) → Matches thorns a specs ordered (Ok x)
        → Matches thorns b specs ordered (Ok y) → x ≡ y
    same_items x y m n =
        one_value (List Item) x y
        (m.items
        ∙ ap (or_fault match_fault)
        (all-same thorns m.sight n.sight ordered.storage a m.told n.told specs
        (run_count ordered.plan) ordered.items)
        ∙ ap (or_fault match_fault)
        (items_same a b agree
        (record { thorns = thorns; sight = n.sight; storage = ordered.storage }) specs
        (run_count ordered.plan) ordered.items)
        ∙ sym n.items)

    -- the jobs of one plan
    of_plan : (c : ℕ) (job_a job_b : Job) (items_a items_b : List Item)
        (out_a out_b : List VarId) (lines_a lines_b : List SteerLine)
        → Ok out_a ≡ output_ids thorns a ordered.storage
        → Ok out_b ≡ output_ids thorns b ordered.storage
        → Matches thorns a specs ordered (Ok items_a) → Matches thorns b specs ordered (Ok items_b)
        → AllByRecursion IsEarly lines_a → AllByRecursion IsEarly lines_b
        → lines_up_to c lines_a ≡ lines_up_to c lines_b
        → EndsLine ordered.text
        → job_a ≡ steered_job specs (parameters thorns) (steps thorns lines_a)
        (job_of thorns a ordered items_a out_a)
        → job_b ≡ steered_job specs (parameters thorns) (steps thorns lines_b)
        (job_of thorns b ordered items_b out_b)
        → AreAlikeTo c job_a job_b
    of_plan c job_a job_b items_a items_b out_a out_b lines_a lines_b outs_a outs_b m n
        early_a early_b same_lines whole_text is_a is_b =
        let ps = parameters thorns in
        let base_a = job_of thorns a ordered items_a out_a in
        let base_b = job_of thorns b ordered items_b out_b in
        let written : out_a ≡ out_b = one_list out_a out_b outs_a outs_b in
        let called : items_a ≡ items_b = same_items items_a items_b m n in
        let made : job_of thorns b ordered items_a out_a ≡ base_b =
        ap (λ xs. job_of thorns b ordered xs out_a) called
        ∙ ap (λ vs. job_of thorns b ordered items_b vs) written in
        let setup : setup_of base_a ≡ setup_of base_b =
        setup_same a b agree thorns ordered items_a out_a ∙ ap setup_of made in
        let key : base_a.key ≡ base_b.key =
        one_key a b agree thorns ordered items_a out_a ∙ ap (λ (j : Job). j.key) made in
        let run : items_run base_a ≡ items_run base_b =
        ap (λ xs. take (run_count ordered.plan) xs) called in
        let same = same_steps c thorns lines_a lines_b same_lines in
        let alike : AreAlikeTo c
        (steered_job specs ps (steps thorns lines_a) base_a)
        (steered_job specs ps (steps thorns lines_b) base_b) =
        record {
          setup = ap (λ (s : Setup). steered_as s
              (steers_of specs ps (items_run base_b) (steps thorns lines_b))) (sym setup);
          steers = same_steers c specs ps (items_run base_a) (steps thorns lines_a)
              (steps thorns lines_b) same
              ∙ ap (λ xs. steers_to c (steers_of specs ps xs (steps thorns lines_b))) run;
          key = subst (λ k. Agree c (base_a.key ++ step_lines ps (steps thorns lines_a))
              (k ++ step_lines ps (steps thorns lines_b))) key
              (steps_agree ps named c base_a.key
              (key_ends base_a.shape thorns a base_a.vars ordered.text whole_text)
              (steps thorns lines_a) (steps thorns lines_b)
              (small_steps thorns lines_a early_a) (small_steps thorns lines_b early_b) same);
        } in
        subst (λ (j : Job). AreAlikeTo c j job_b) (sym is_a)
        (subst (λ (j : Job). AreAlikeTo c
        (steered_job specs ps (steps thorns lines_a) base_a) j) (sym is_b) alike)

  pub alike_to : (c : ℕ) (specs : List Spec) (held_a held_b : Held) (job_a job_b : Job)
      (p : Pieces specs held_a thorns schedules one job_a)
      (q : Pieces specs held_b thorns schedules other job_b)
      → lines_up_to c p.lines ≡ lines_up_to c q.lines → AreAlikeTo c job_a job_b
  alike_to c specs held_a held_b job_a job_b p q same_lines =
      let plan : p.ordered ≡ q.ordered =
      only (input_of thorns schedules b) p.ordered q.ordered (plan_moved p.fit p.ordered p.plan)
      q.plan in
      let moved : (o : Ordered) → o ≡ q.ordered
      → (Ok q.out_vars ≡ output_ids thorns b o.storage) × Matches thorns b specs o (Ok q.items)
      × (job_b ≡ steered_job specs (parameters thorns) (steps thorns q.lines)
      (job_of thorns b o q.items q.out_vars)) =
      λ o e. (
        subst (λ z. Ok q.out_vars ≡ output_ids thorns b z.storage) (sym e) q.outputs,
        subst (λ z. Matches thorns b specs z (Ok q.items)) (sym e) q.matches,
        subst (λ z. job_b ≡ steered_job specs (parameters thorns) (steps thorns q.lines)
            (job_of thorns b z q.items q.out_vars)) (sym e) q.is,
      ) in
      let there = moved p.ordered plan in
      of_plan specs p.ordered c job_a job_b p.items q.items p.out_vars q.out_vars p.lines q.lines
      p.outputs there.0 p.matches there.1 (lines_early held_a a p.lines p.says)
      (lines_early held_b b q.lines q.says) same_lines
      (plan_ends (input_of thorns schedules a) p.ordered p.plan) p.is there.2

-- ---- two shelves

-- pieces with lines that are the same up to an iteration
abbrev IsLike : List Spec → Held → Job → List Setting → ℕ → List SteerLine → List Thorn
    → List ScheduleFile → Type 0
IsLike specs held job settings c lines thorns schedules =
    (r : Pieces specs held thorns schedules settings job)
    × (lines_up_to c lines ≡ lines_up_to c r.lines)

pub one_run : (c : ℕ) (name_a name_b : List ℕ) (specs : List Spec) (held_a held_b : Held)
    (a b : Job) → Made name_a specs held_a (Ok a) → Made name_b specs held_b (Ok b)
    → AreChained name_a name_b held_a held_b → HaveSteersTo c name_a name_b held_a held_b
    → AreAlikeTo c a b
one_run c name_a name_b specs held_a held_b a b made_a made_b chained steered =
    let first = then_ok (Raised config_fault (Configures name_a held_a)) (MadeOf specs held_a) a
    made_a in
    let second = then_ok (Raised config_fault (Configures name_b held_b)) (MadeOf specs held_b) b
    made_b in
    let x : Configured = first.0 in
    let y : Configured = second.0 in
    let differ = chained.settings x y first.1 second.1 in
    let files = configured_same held_a held_b chained.files.list chained.files.thorns name_a name_b
    x y first.1 second.1 differ.active in
    let p = pieces_of specs held_a a x first.2 in
    let q = pieces_of specs held_b b y second.2 in
    let same = steered x y p.lines q.lines first.1 second.1 p.says q.says in
    let q_there = subst (λ (ts : List Thorn).
    IsLike specs held_b b y.settings.list c p.lines ts y.schedules) (sym files.0) (q, same) in
    let q_here = subst (λ (fs : List ScheduleFile).
    IsLike specs held_b b y.settings.list c p.lines x.thorns fs) (sym files.1) q_there in
    alike_to x.thorns x.schedules x.settings.list y.settings.list differ.others
    (parameters_named name_a held_a x first.1) c specs held_a held_b a b p q_here.0 q_here.1
