-- The items of a job that is made of one thorn.
use Rattle.std.proofs.Common.{◌≡◌, refl, sym, ap, subst, ◌∙◌, ℕ, zero, suc, ◌<◌, ◌&&◌, Bool, true, ℤ, List, [], ◌∷◌, length, get_or, Option, Some, None, slice_get, arith}
use Rattle.std.specs.Option.{unwrap_or}
use Rattle.std.proofs.lemmas.Bool.{and_parts}
use Rattle.std.proofs.lemmas.List.Quantifiers.{position-Some}
use Rattle.std.proofs.lemmas.Option.{get_or_from_slice_get}
use Rattle.std.proofs.lemmas.Slice.Eq.{bytes_eq-Decides}
use Rattle.cx_text.specs.Bytes.{folded}
use Rattle.cx_text.specs.Lexemes.{same_name}
use Rattle.cx_plan.specs.Lookups.{item, no_item}
use Rattle.cx_plan.specs.Regions.{run_items, HasShapes, has_shape, is_some_list, are_distinct, kinds_agree}
use Rattle.cx_plan.specs.Setups.{Setup, setup_of}
use Rattle.cx_plan.specs.declared.item.Item.{Item}
use Rattle.cx_plan.specs.declared.item.Touch.{Touch}
use Rattle.cx_plan.specs.declared.job.Job.{Job}
use Rattle.cx_sched.specs.declared.tree.ScheduleFile.{ScheduleFile}
use Rattle.cx_bind.specs.declared.thorns.Thorn.{Thorn}
use Rattle.cx_values.specs.declared.values.Values.{Values}
use Rattle.cx_scope.specs.Sight.{Sight}
use Rattle.cx_order.specs.Files.{input_of}
use Rattle.cx_order.specs.Meanings.{World}
use Rattle.cx_rule.specs.Routine.{Rule, rule_at}
use Rattle.cx_rule.specs.declared.spec.Spec.{Spec}
use Rattle.cx_rule.specs.declared.spec.Want.{Want}
use Rattle.cx_job_items.specs.Matching.{thorn_number, touches_of, numbers_of, is_for, offer, all_matched}
use Rattle.cx_job.specs.JobLimits.{run_count}
use Rattle.cx_job.proofs.MatchedLaws.{answered_below, IsMatched, matched_at}
use Rattle.cx_job.proofs.RunLaws.{called_of_plan}
use Rattle.cx_job.proofs.TouchLaws.{is_offer}
use Rattle.law_physics_job.proofs.Stages.{IsMadeOf}

pub some_same : {A : Type 0} {x y : A} → Some x ≡ Some y → x ≡ y
some_same e = cc

-- ---- names

-- names that are the same as one name
joined_names : (a b c d : List ℕ) → same_name a b ≡ true → same_name c b ≡ true
    → same_name c d ≡ true → same_name a d ≡ true
joined_names a b c d ab cb cd =
    (bytes_eq-Decides (folded a) (folded d)).1
    ((bytes_eq-Decides (folded a) (folded b)).0 ab
    ∙ sym ((bytes_eq-Decides (folded c) (folded b)).0 cb)
    ∙ (bytes_eq-Decides (folded c) (folded d)).0 cd)

-- ---- what an item has from its routine

abbrev pub world_with : Thorn → List ℕ → Sight → World
world_with t storage sight = record { thorns = t ∷ []; sight = sight; storage = storage }

pub record HasSpec (t : Thorn) (thorn storage : List ℕ) (specs : List Spec) (values : Values)
    (y : Item) : Type 0 where
  pub sight : Sight
  pub number : ℕ
  pub spec : Spec
  pub object : slice_get specs number ≡ Some spec
  pub its : same_name spec.thorn thorn ≡ true
  pub routine : y.routine ≡ number
  pub kind : y.kind ≡ spec.kind
  pub reads : touches_of (world_with t storage sight) (Some 0) spec.reads ≡ Some y.reads
  pub writes : touches_of (world_with t storage sight) (Some 0) spec.writes ≡ Some y.writes
  pub params : numbers_of values spec.params ≡ Some y.params

-- an item of a routine that says this of itself
pub record IsBy (specs : List Spec) (spec : Spec) (reads writes : List Touch)
    (y : Item) : Type 0 where
  pub kind : y.kind ≡ spec.kind
  pub read : y.reads ≡ reads
  pub written : y.writes ≡ writes
  pub object : slice_get specs y.routine ≡ Some spec

module _ (t : Thorn) (thorn storage : List ℕ) (specs : List Spec) (values : Values) (y : Item)
    (h : HasSpec t thorn storage specs values y) where
  abbrev Mean : List Want → List Touch → Type 0
  Mean wants ts = touches_of (world_with t storage h.sight) (Some 0) wants ≡ Some ts

  -- its touches are what its routine's names mean
  pub is_by : (spec : Spec) (reads writes : List Touch) → h.spec ≡ spec → Mean spec.reads reads
      → Mean spec.writes writes → IsBy specs spec reads writes y
  is_by spec reads writes is read written =
      record {
        kind = h.kind ∙ ap (λ (s : Spec). s.kind) is;
        read = some_same (sym h.reads
            ∙ ap (λ (s : Spec). touches_of (world_with t storage h.sight) (Some 0) s.reads) is
            ∙ read);
        written = some_same (sym h.writes
            ∙ ap (λ (s : Spec). touches_of (world_with t storage h.sight) (Some 0) s.writes) is
            ∙ written);
        object = ap (slice_get specs) h.routine ∙ h.object ∙ ap (λ (s : Spec). Some s) is;
      }

  pub params_are : (spec : Spec) → h.spec ≡ spec
      → y.params ≡ unwrap_or (numbers_of values spec.params) []
  params_are spec is =
      ap (λ (o : Option (List ℤ)). unwrap_or o [])
      (sym h.params ∙ ap (λ (s : Spec). numbers_of values s.params) is)

  pub rule_is : (rules : List Rule) (rule : Rule) → rule_at rules h.number ≡ rule
      → rule_at rules y.routine ≡ rule
  rule_is rules rule at = ap (rule_at rules) h.routine ∙ at

-- ---- the thorn of an item

none_written : (w : World) (wants : List Want) (ts : List Touch)
    → touches_of w None wants ≡ Some ts → ts ≡ []
none_written w [] ts e = sym (some_same e)
none_written w (want ∷ wants) ts e = absurd cc

writes_some : (setup : Setup) (y : Item) → has_shape setup y ≡ true → is_some_list y.writes ≡ true
writes_some setup y shape =
    let some : Bool = is_some_list y.writes in
    let apart : Bool = are_distinct y.writes in
    let kinds : Bool = kinds_agree setup y y.kind in
    let three = (and_parts (some && apart && kinds) _ shape).0 in
    (and_parts some apart (and_parts (some && apart) kinds three).0).0

not_nothing : (ws : List Touch) → ws ≡ [] → is_some_list ws ≡ true → ⊥
not_nothing [] e some = absurd cc
not_nothing (w ∷ ws) e some = absurd cc

module _ (t : Thorn) (thorn : List ℕ) (storage : List ℕ) (named : same_name t.name thorn ≡ true)
    (specs : List Spec) (values : Values) (sight : Sight) (setup : Setup) where
  abbrev w : World
  w = world_with t storage sight

  module _ (x y : Item) (shape : has_shape setup y ≡ true)
      (m : IsMatched w values specs x y) where
    its_spec : is_for x m.spec ≡ true
    its_spec =
        ap (is_for x) (sym (get_or_from_slice_get specs m.number m.spec m.spec m.object))
        ∙ (position-Some (is_for x) specs m.number m.spec m.first).1

    by_thorn : (o : Option ℕ) → thorn_number (t ∷ []) x.thorn ≡ o
        → (same_name t.name x.thorn ≡ true) × (o ≡ Some 0)
    by_thorn None is =
        absurd (not_nothing y.writes
        (ap (λ (z : Item). z.writes) m.is
        ∙ none_written w m.spec.writes m.given.writes
        (is_offer w values None m.spec m.given
        (sym (ap (λ (o : Option ℕ). offer w values o m.spec) is) ∙ m.offered)).writes)
        (writes_some setup y shape))
    by_thorn (Some zero) is = (
      (position-Some (λ (u : Thorn). same_name u.name x.thorn) (t ∷ []) 0 t is).1,
      refl,
    )
    by_thorn (Some (suc j)) is =
        absurd (let low = (position-Some (λ (u : Thorn). same_name u.name x.thorn)
        (t ∷ []) (suc j) t is).0 in let no : ⊥ = omega (arith, low) in no)

    pub has_spec : HasSpec t thorn storage specs values y
    has_spec =
        let is = by_thorn (thorn_number (t ∷ []) x.thorn) refl in
        let both = and_parts (same_name m.spec.thorn x.thorn) (same_name m.spec.name x.name)
        its_spec in
        let o = is_offer w values (Some 0) m.spec m.given
        (sym (ap (λ (o : Option ℕ). offer w values o m.spec) is.1) ∙ m.offered) in
        record {
          sight = sight;
          number = m.number;
          spec = m.spec;
          object = m.object;
          its = joined_names m.spec.thorn x.thorn t.name thorn both.0 is.0 named;
          routine = ap (λ (z : Item). z.routine) m.is;
          kind = ap (λ (z : Item). z.kind) m.is;
          reads = o.reads ∙ ap (λ (z : Item). Some z.reads) (sym m.is);
          writes = o.writes ∙ ap (λ (z : Item). Some z.writes) (sym m.is);
          params = o.params ∙ ap (λ (z : Item). Some z.params) (sym m.is);
        }

-- ---- each item that is run

module _ (specs : List Spec) (t : Thorn) (schedules : List ScheduleFile) (values : Values)
    (job : Job) (m : IsMadeOf specs (t ∷ []) schedules values job) where
  abbrev setup : Setup
  setup = setup_of job

  pub items_are : setup.items ≡ m.items
  items_are = ap (λ (j : Job). j.items) m.is

  bins_are : setup.bins ≡ m.ordered.plan.bins
  bins_are = ap (λ (j : Job). j.plan.bins) m.is

  module _ (i d : ℕ) (within : i < length (run_items setup)) where
    abbrev k : ℕ
    k = get_or (run_items setup) i d

    pub is_run : (k < run_count m.ordered.plan) × (k < length m.ordered.items)
    is_run = called_of_plan (input_of (t ∷ []) schedules values) m.ordered m.plan setup bins_are
        i d within

    module _ (thorn storage : List ℕ) (named : same_name t.name thorn ≡ true)
        (stored : m.ordered.storage ≡ storage) (shapes : HasShapes setup) where
      pub run_has_spec : HasSpec t thorn storage specs values (item setup k)
      run_has_spec =
          let w = world_with t m.ordered.storage m.matches.sight in
          let told = answered_below
          (all_matched w values specs (run_count m.ordered.plan) m.ordered.items) m.items
          m.matches.items in
          let matched : IsMatched w values specs (get_or m.ordered.items k no_item)
          (get_or m.items k no_item) =
          matched_at w values specs (run_count m.ordered.plan) m.ordered.items m.items told k
          no_item no_item is_run.1 is_run.0 in
          let moved : IsMatched w values specs (get_or m.ordered.items k no_item)
          (item setup k) =
          subst (λ (xs : List Item). IsMatched w values specs (get_or m.ordered.items k no_item)
          (get_or xs k no_item)) (sym items_are) matched in
          subst (λ (s : List ℕ). HasSpec t thorn s specs values (item setup k)) stored
          (has_spec t thorn m.ordered.storage named specs values m.matches.sight setup
          (get_or m.ordered.items k no_item) (item setup k) (shapes i d within) moved)
