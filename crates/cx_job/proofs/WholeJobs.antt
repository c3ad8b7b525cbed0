-- A job is whole where the stages before it have found no fault.
use Rattle.std.proofs.Common.{◌≡◌, ◌≢◌, ◌⊎◌, inl, inr, refl, ap, sym, subst, ◌∙◌, ℕ, ◌*◌, ◌-◌, ◌^◌, ◌≤◌, ◌<◌, Bool, true, false, nat_lt, ltb-false, pos, negsuc, List, length, get_or, take, Some, None, Ok, if◌then◌else◌, codes, arith, ◌+◌}
use Rattle.std.proofs.lemmas.Int.{ints}
use Rattle.std.proofs.lemmas.List.{get_or-take, length-take}
use Rattle.std.specs.List.{flat_map}
use Rattle.std.specs.Prelude.{All, AllPairs, slice_index_or}
use Rattle.cx_grid.specs.Boxes.{point_count}
use Rattle.cx_grid.specs.Grid.{IsShape, whole}
use Rattle.cx_plan.specs.Lists.{or_else, first_of_each}
use Rattle.cx_plan.specs.Whole.{IsName, IsStored, IsItem, IsSmall, IsTree, IsWhole, grid_levels}
use Rattle.cx_plan.specs.Setups.{setup_of}
use Rattle.cx_plan.specs.Lookups.{item, no_item}
use Rattle.cx_plan.specs.Regions.{run_items}
use Rattle.cx_plan.specs.declared.variable.VarId.{VarId}
use Rattle.cx_plan.specs.declared.variable.VarInfo.{VarInfo}
use Rattle.cx_plan.specs.declared.item.Item.{Item}
use Rattle.cx_plan.specs.declared.job.Job.{Job}
use Rattle.cx_sched.specs.declared.tree.ScheduleFile.{ScheduleFile}
use Rattle.cx_bind.specs.Binding.{bind_fault}
use Rattle.cx_bind.specs.Variables.{variable_infos}
use Rattle.cx_bind.specs.Parameters.{parameters}
use Rattle.cx_bind.specs.declared.thorns.Thorn.{Thorn}
use Rattle.cx_values.specs.declared.steering.SteerStep.{SteerStep}
use Rattle.cx_values.specs.declared.values.Values.{Values}
use Rattle.cx_order.specs.declared.ordered.Ordered.{Ordered}
use Rattle.cx_order.specs.Files.{input_of}
use Rattle.cx_order.specs.Ordering.{IsPlan, world}
use Rattle.cx_order.specs.Meanings.{World}
use Rattle.cx_order.specs.Plans.{Forest, forests, forest_items, bin_trees}
use Rattle.cx_rule.specs.declared.spec.Spec.{Spec}
use Rattle.cx_job.specs.declared.fault.JobFault.TheVariants.{Limit}
use Rattle.cx_job.specs.JobLimits.{over, writes_fault, reads_fault, parameters_fault, item_limits, points_fault, cells_fault, grid_limits, key_limit, limit_fault, run_count}
use Rattle.cx_job.specs.Jobs.{job_of, steered_job}
use Rattle.cx_job_files.specs.NamesAndLevels.{AreRead}
use Rattle.cx_job.specs.Outputs.{output_variables}
use Rattle.cx_job.specs.Weights.{weight_fault}
use Rattle.cx_job_values.specs.Stored.{stored_infos}
use Rattle.cx_job_values.specs.Grids.{number_at}
use Rattle.cx_job.specs.Making.{Matches}
use Rattle.cx_job_values.proofs.NoneLaws.{some_none, first_none, second_none}
use Rattle.cx_job_values.proofs.LimitLaws.{lies_within, natural_lies_within, has_shape}
use Rattle.cx_job.proofs.WrittenLaws.{outputs_stored, outputs_rise}
use Rattle.cx_job.proofs.WeightLaws.{weighs_stored}
use Rattle.cx_job.proofs.StoredLaws.{as_many_stored, each_stored, names_kept, stored_differ}
use Rattle.cx_job.proofs.SupportedLaws.{no_two_variables, one_level, few_variables as few_declared}
use Rattle.cx_job.proofs.TreeLaws.{bins_whole}
use Rattle.cx_job.proofs.NamesLaws.{are_names}
use Rattle.cx_job.proofs.MeantLaws.{all_none}
use Rattle.cx_job_items.specs.Matching.{all_matched}
use Rattle.cx_job.proofs.MatchedLaws.{answered_below, IsMatched, as_many_matched, matched_or_kept}
use Rattle.cx_job.proofs.SteerLaws.{each_steer}
use Rattle.cx_job.proofs.TouchLaws.{matched_whole, planned_whole}
use Rattle.cx_job.proofs.RunLaws.{called_of_plan}
use Rattle.cx_job.proofs.PlanFacts.{each_variable, each_bin, not_deep, not_large, no_more_levels}
use Rattle.cx_text.specs.Numbers.{in_64_bits}

-- ---- limits

pub not_over : (what : List ℕ) (number limit : ℕ) → over what number limit ≡ None → number ≤ limit
not_over what number limit none = by (nat_lt limit number) refl none
  where
    by : (b : Bool) → nat_lt limit number ≡ b
        → (if b then Some (Limit what (in_64_bits number)) else None) ≡ None → number ≤ limit
    by true e none = some_none none
    by false e none = ltb-false limit number e

-- what the stages before have made sure of
pub record IsSound (specs : List Spec) (steps : List SteerStep) (thorns : List Thorn)
    (files : List ScheduleFile) (values : Values) (run : ℕ) (ordered : Ordered) (items : List Item)
    (out_vars : List VarId) : Type 0 where
  pub fit : bind_fault thorns ≡ None
  pub planned : IsPlan (input_of thorns files values) ordered
  pub later : All (λ (step : SteerStep). 1 ≤ step.at) steps
  pub few : (let job = steered_job specs (parameters thorns) steps
      (job_of thorns values ordered items out_vars) in
      limit_fault run job.items job.shape job.vars job.key) ≡ None
  pub written : output_variables thorns values ordered.storage ≡ Ok out_vars
  pub weighs : weight_fault thorns values ordered.storage ≡ None

at_most : (a b c : ℕ) → a ≤ b → b ≤ c → a ≤ c
at_most a b c h i = omega arith

module _ (specs : List Spec) (steps : List SteerStep) (thorns : List Thorn)
    (files : List ScheduleFile) (values : Values) (run : ℕ) (ordered : Ordered) (items : List Item)
    (out_vars : List VarId)
    (sound : IsSound specs steps thorns files values run ordered items out_vars) where
  abbrev job : Job
  job = steered_job specs (parameters thorns) steps (job_of thorns values ordered items out_vars)

  -- ---- the grid and the key

  behind_items : or_else (grid_limits job.shape job.vars) (key_limit job.key) ≡ None
  behind_items = second_none (item_limits run job.items)
      (or_else (grid_limits job.shape job.vars) (key_limit job.key)) sound.few

  pub items_fit : item_limits run job.items ≡ None
  items_fit = first_none (item_limits run job.items)
      (or_else (grid_limits job.shape job.vars) (key_limit job.key)) sound.few

  grid_fits : grid_limits job.shape job.vars ≡ None
  grid_fits = first_none (grid_limits job.shape job.vars) (key_limit job.key) behind_items

  pub few_points : point_count (whole job.shape) ≤ 2 ^ 24
  few_points = not_over (codes "points") (point_count (whole job.shape)) (2 ^ 24)
      (first_none (points_fault job.shape) (cells_fault job.shape job.vars) grid_fits)

  pub few_cells : grid_levels job.vars * point_count (whole job.shape) ≤ 2 ^ 26
  few_cells =
      not_over (codes "owned cells") (grid_levels job.vars * point_count (whole job.shape)) (2 ^ 26)
      (second_none (points_fault job.shape) (cells_fault job.shape job.vars) grid_fits)

  pub short_key : length job.key < 2 ^ 32
  short_key =
      let most = not_over (codes "key") (length job.key) (2 ^ 32 - 1)
      (second_none (grid_limits job.shape job.vars) (key_limit job.key) behind_items) in
      omega (arith, most)

  pub shape : IsShape job.shape
  shape = has_shape thorns values few_points

  -- ---- variables

  pub names_apart : AllPairs (λ (a b : VarInfo). a.full ≢ b.full) job.vars
  names_apart = stored_differ thorns ordered.storage (no_two_variables thorns sound.fit)

  pub few_variables : length job.vars ≤ 256
  few_variables = (let same = as_many_stored thorns ordered.storage in
      let most = few_declared thorns sound.fit in omega (arith, same, most))

  pub one_of_scalars : All (λ (v : VarInfo). v.scalar ≡ true → v.levels ≤ 1) job.vars
  one_of_scalars =
      each_stored thorns ordered.storage (λ (v : VarInfo). v.scalar ≡ true → v.levels ≤ 1)
      (λ k d within scalar.
      let v : VarInfo = get_or (variable_infos thorns) k d in
      at_most (slice_index_or ordered.storage k 0) v.levels 1
      (no_more_levels (input_of thorns files values) ordered sound.planned k d within)
      (one_level thorns sound.fit k d within scalar))

  pub names : AreRead (variable_infos thorns) → All (λ (v : VarInfo). IsName v.full) job.vars
  names read = names_kept thorns ordered.storage IsName read.names

  pub few_levels : AreRead (variable_infos thorns) → All (λ (v : VarInfo). v.levels ≤ 8) job.vars
  few_levels read =
      each_stored thorns ordered.storage (λ (v : VarInfo). v.levels ≤ 8)
      (λ k d within.
      let v : VarInfo = get_or (variable_infos thorns) k d in
      at_most (slice_index_or ordered.storage k 0) v.levels 8
      (no_more_levels (input_of thorns files values) ordered sound.planned k d within)
      (read.levels k d within))

  pub written_stored : All (λ v. IsStored job v 0) job.out_vars
  written_stored = outputs_stored thorns values ordered.storage out_vars sound.written

  pub written_rise : AllPairs (λ (a b : VarId). a.0 < b.0) job.out_vars
  written_rise = outputs_rise thorns values ordered.storage out_vars sound.written

  -- ---- trees

  as_much_room : (a b c : ℕ) → a ≡ b → b ≡ c → 0 + c ≤ a
  as_much_room a b c one other = omega (arith, one, other)

  pub trees_named : length items ≡ length ordered.items → All (IsTree job) job.plan.bins
  trees_named as_many =
      let w : World = world (input_of thorns files values) sound.planned.c sound.planned.sight in
      let all : List Forest = forests sound.planned.c.entries sound.planned.orders in
      let vars : job.vars ≡ stored_infos w.thorns w.storage =
      ap (λ (o : Ordered). stored_infos thorns o.storage) sound.planned.is_planned in
      let calls : length ordered.items ≡ length (flat_map (forest_items w) all) =
      ap (λ (o : Ordered). length o.items) sound.planned.is_planned in
      let bins : ordered.plan.bins ≡ bin_trees w 0 all =
      ap (λ (o : Ordered). o.plan.bins) sound.planned.is_planned in
      subst (λ trees. All (IsTree job) trees) (sym bins)
      (bins_whole job w (are_names job w vars
      (each_variable thorns sound.planned.sight sound.planned.c.lines)) 0 all
      (as_much_room (length items) (length ordered.items)
      (length (flat_map (forest_items w) all)) as_many calls))

  -- ---- all together

  -- Of the items it is left to show that they touch what is there, and that those that are run are
  -- within their limits.
  whole_with : AreRead (variable_infos thorns) → length items ≡ length ordered.items
      → All (IsItem job) job.items
      → All (λ k. IsSmall (item (setup_of job) k)) (run_items (setup_of job)) → IsWhole job
  whole_with read as_many of_items small =
      let iterations = natural_lies_within values 0 1000000 (codes "Cactus::cctk_itlast")
      (omega arith) in
      let turns = natural_lies_within values 1 1000000 (codes "driver::while_limit") (omega arith)
      in
      let ahead = natural_lies_within values 0 64 (codes "driver::lead") (omega arith) in
      let factor = natural_lies_within values 0 1048576 (codes "driver::weight_factor")
      (omega arith) in
      let slots = natural_lies_within values 1 7 (codes "IO::checkpoint_keep") (omega arith) in
      let outputs = lies_within (negsuc 0) (pos 1000000) (number_at values (codes "IO::out_every"))
      (omega (arith, ints)) in
      let checkpoints = lies_within (negsuc 0) (pos 1000000)
      (number_at values (codes "IO::checkpoint_every")) (omega (arith, ints)) in
      record {
        shape = shape;
        names = names read;
        names_differ = names_apart;
        one_level = one_of_scalars;
        levels_limit = few_levels read;
        items = of_items;
        run_items = small;
        bins = each_bin (input_of thorns files values) ordered sound.planned;
        trees = trees_named as_many;
        nodes_limit = not_large (input_of thorns files values) ordered sound.planned;
        depth_limit = not_deep (input_of thorns files values) ordered sound.planned;
        outputs = written_stored;
        steers = each_steer (setup_of job) specs (parameters thorns)
            (run_count ordered.plan) steps sound.later;
        weight = weighs_stored thorns ordered.storage values sound.weighs;
        weight_factor = factor.1;
        outputs_rise = written_rise;
        variables_limit = few_variables;
        itlast_limit = iterations.1;
        some_turn = turns.0;
        while_limit = turns.1;
        lead_limit = ahead.1;
        some_keep = slots.0;
        keep_limit = slots.1;
        output_least = outputs.0;
        output_limit = outputs.1;
        checkpoint_least = checkpoints.0;
        checkpoint_limit = checkpoints.1;
        cells_limit = few_cells;
        key_limit = short_key;
      }

-- ---- items that were matched

module _ (thorns : List Thorn) (files : List ScheduleFile) (values : Values) (specs : List Spec)
    (steps : List SteerStep) (ordered : Ordered) (items : List Item) (out_vars : List VarId)
    (sound : IsSound specs steps thorns files values (run_count ordered.plan) ordered items
    out_vars) (matches : Matches thorns values specs ordered (Ok items)) where
  abbrev made : Job
  made = steered_job specs (parameters thorns) steps (job_of thorns values ordered items out_vars)

  abbrev seen : World
  seen = record { thorns = thorns; sight = matches.sight; storage = ordered.storage }

  abbrev run : ℕ
  run = run_count ordered.plan

  as_many : length items ≡ length ordered.items
  as_many = as_many_matched seen values specs run ordered.items items
      (answered_below (all_matched seen values specs run ordered.items) items matches.items)

  each_stored_level : length ordered.storage ≡ length (variable_infos thorns)
  each_stored_level = ap (λ (o : Ordered). length o.storage) sound.planned.is_planned
      ∙ each_variable thorns sound.planned.sight sound.planned.c.lines

  of_plan : All (IsItem made) ordered.items
  of_plan =
      let w : World = world (input_of thorns files values) sound.planned.c sound.planned.sight in
      let vars : made.vars ≡ stored_infos w.thorns w.storage =
      ap (λ (o : Ordered). stored_infos thorns o.storage) sound.planned.is_planned in
      subst (λ xs. All (IsItem made) xs)
      (sym (ap (λ (o : Ordered). o.items) sound.planned.is_planned))
      (planned_whole made w vars (each_variable thorns sound.planned.sight sound.planned.c.lines)
      (forests sound.planned.c.entries sound.planned.orders))

  -- an item that isn't run has the touches of its schedule line, and each other one those of its
  -- routine
  of_items : All (IsItem made) items
  of_items k d within = by
      (matched_or_kept seen values specs run ordered.items items
      (answered_below (all_matched seen values specs run ordered.items) items matches.items)
      k d d there)
    where
      there : k < length ordered.items
      there = (let same = as_many in omega (arith, within, same))

      by : ((k < run) × IsMatched seen values specs (get_or ordered.items k d) (get_or items k d))
          ⊎ ((run ≤ k) × (get_or items k d ≡ get_or ordered.items k d))
          → IsItem made (get_or items k d)
      by (inl is) = matched_whole made seen refl each_stored_level values specs
          (get_or ordered.items k d) (get_or items k d) is.1
      by (inr is) = subst (λ x. IsItem made x) (sym is.1) (of_plan k d there)

  -- what is within a limit for each of the first items
  first_within : (what : List ℕ) (size : Item → ℕ) (limit : ℕ)
      → first_of_each (λ x. over what (size x) limit) (take run items) ≡ None → (k : ℕ) → k < run
      → k < length items → size (get_or items k no_item) ≤ limit
  first_within what size limit none k low there =
      let long = length-take run items in
      let at : get_or (take run items) k no_item ≡ get_or items k no_item =
      get_or-take run items k no_item low in
      not_over what (size (get_or items k no_item)) limit
      (subst (λ x. over what (size x) limit ≡ None) at
      (all_none (λ x. over what (size x) limit) (take run items) none k no_item
      (omega (arith, long, low, there))))

  small_at : (k : ℕ) → k < run → k < length items → IsSmall (get_or items k no_item)
  small_at k low there =
      let first : List Item = take run items in
      let none : item_limits run items ≡ None =
      items_fit specs steps thorns files values run ordered items out_vars sound in
      let behind = second_none (first_of_each writes_fault first)
      (or_else (first_of_each reads_fault first) (first_of_each parameters_fault first)) none in
      record {
        reads = first_within (codes "reads") (λ x. length x.reads) 32
            (first_none (first_of_each reads_fault first) (first_of_each parameters_fault first)
            behind) k low there;
        writes = first_within (codes "writes") (λ x. length x.writes) 16
            (first_none (first_of_each writes_fault first)
            (or_else (first_of_each reads_fault first) (first_of_each parameters_fault first)) none)
            k low there;
        params = first_within (codes "parameters") (λ x. length x.params) 32
            (second_none (first_of_each reads_fault first) (first_of_each parameters_fault first)
            behind) k low there;
      }

  small_items : All (λ k. IsSmall (item (setup_of made) k)) (run_items (setup_of made))
  small_items i d within =
      let k : ℕ = get_or (run_items (setup_of made)) i d in
      let at = called_of_plan (input_of thorns files values) ordered sound.planned (setup_of made)
      refl i d within in
      let same = as_many in
      small_at k at.0 (omega (arith, at.1, same))

-- A job is whole where its parts are sound, its thorns were read and its items matched.
pub is_whole : (thorns : List Thorn) (files : List ScheduleFile) (values : Values)
    (specs : List Spec) (steps : List SteerStep) (ordered : Ordered) (items : List Item)
    (out_vars : List VarId)
    → IsSound specs steps thorns files values (run_count ordered.plan) ordered items out_vars
    → AreRead (variable_infos thorns) → Matches thorns values specs ordered (Ok items)
    → IsWhole (steered_job specs (parameters thorns) steps
    (job_of thorns values ordered items out_vars))
is_whole thorns files values specs steps ordered items out_vars sound read matches =
    whole_with specs steps thorns files values (run_count ordered.plan) ordered items out_vars sound
    read (as_many thorns files values specs steps ordered items out_vars sound matches)
    (of_items thorns files values specs steps ordered items out_vars sound matches)
    (small_items thorns files values specs steps ordered items out_vars sound matches)
