-- Items touch levels that are stored: by the names of the schedule, and by those of their routines.
use Rattle.std.proofs.Common.{◌≡◌, refl, ap, sym, subst, ◌∙◌, ℕ, suc, Bool, true, false, List, [], ◌∷◌, map, length, get_or, Option, Some, None, Result, Ok, Err, if◌then◌else◌}
use Rattle.std.specs.Prelude.{ℤ, All}
use Rattle.std.specs.List.{flat_map}
use Rattle.std.proofs.lemmas.List.Elements.{All-cons, All-append}
use Rattle.cx_plan.specs.Whole.{IsTouch, IsItem}
use Rattle.cx_plan.specs.declared.item.Touch.{Touch}
use Rattle.cx_plan.specs.declared.item.Item.{Item}
use Rattle.cx_plan.specs.declared.job.Job.{Job}
use Rattle.cx_plan.specs.declared.variable.VarId.{VarId}
use Rattle.cx_bind.specs.Variables.{variable_infos}
use Rattle.cx_scope.specs.declared.fault.ScopeFault.{ScopeFault}
use Rattle.cx_values.specs.declared.values.Values.{Values}
use Rattle.cx_order_entries.specs.Counted.{Entry}
use Rattle.cx_order.specs.Meanings.{World, Levels, meant}
use Rattle.cx_order.specs.Plans.{Forest, Done, Then, item_of, forest_items}
use Rattle.cx_rule.specs.declared.spec.Spec.{Spec}
use Rattle.cx_rule.specs.declared.spec.Want.{Want}
use Rattle.cx_job_items.specs.declared.matching.Offer.{Offer}
use Rattle.cx_job_items.specs.Matching as matching
use Rattle.cx_job_items.specs.Matching.{ref_in, thorn_number, only_level, level_of, touch_by, touch_of, with_first, all_some, numbers_of, offer_by, offer}
use Rattle.cx_job_values.specs.Stored.{stored_infos}
use Rattle.cx_job_values.proofs.NoneLaws.{no_some, some_same}
use Rattle.cx_job.proofs.SupportedLaws.{none_in, first_of, in_all}
use Rattle.cx_job.proofs.MeantLaws.{IsKept, resolved_kept}
use Rattle.cx_job.proofs.MatchedLaws.{IsMatched}
use Rattle.cx_job.proofs.NamesLaws.{kept_stored, are_names}

-- ---- values that are all there

-- a value, and others behind it
record IsBoth {Y : Type 0} (o : Option Y) (s : Option (List Y)) (ys : List Y) : Type 0 where
  pub one : Y
  pub others : List Y
  pub first : o ≡ Some one
  pub rest : s ≡ Some others
  pub are : ys ≡ one ∷ others

both_there : {Y : Type 0} (o : Option Y) (s : Option (List Y)) (ys : List Y)
    → with_first o s ≡ Some ys → IsBoth o s ys
both_there None s ys told = no_some told
both_there (Some y) None ys told = no_some told
both_there (Some y) (Some others) ys told =
    record {
      one = y;
      others = others;
      first = refl;
      rest = refl;
      are = sym (some_same (y ∷ others) ys told);
    }

-- what is told of each value is told of all
pub each_some : {X Y : Type 0} (P : Y → Type 0) (f : X → Option Y)
    → ((x : X) (y : Y) → f x ≡ Some y → P y) → (xs : List X) (ys : List Y)
    → all_some (map f xs) ≡ Some ys → All P ys
each_some P f each [] ys told = subst (λ zs. All P zs) (some_same [] ys told) (none_in P)
each_some P f each (x ∷ xs) ys told =
    let h = both_there (f x) (all_some (map f xs)) ys told in
    subst (λ zs. All P zs) (sym h.are)
    (All-cons P h.one h.others (each x h.one h.first) (each_some P f each xs h.others h.rest))

-- what each value keeps is kept in the order
pub some_keep : {X Y Z : Type 0} (f : X → Option Y) (g : Y → Z) (h : X → Z)
    → ((x : X) (y : Y) → f x ≡ Some y → g y ≡ h x) → (xs : List X) (ys : List Y)
    → all_some (map f xs) ≡ Some ys → map g ys ≡ map h xs
some_keep f g h each [] ys told = ap (map g) (sym (some_same [] ys told))
some_keep f g h each (x ∷ xs) ys told =
    let b = both_there (f x) (all_some (map f xs)) ys told in
    ap (map g) b.are
    ∙ ap (λ z. z ∷ map g b.others) (each x b.one b.first)
    ∙ ap (λ zs. h x ∷ zs) (some_keep f g h each xs b.others b.rest)

pub as_many_some : {X Y : Type 0} (f : X → Option Y) (xs : List X) (ys : List Y)
    → all_some (map f xs) ≡ Some ys → length ys ≡ length xs
as_many_some f [] ys told = ap length (sym (some_same [] ys told))
as_many_some f (x ∷ xs) ys told =
    let b = both_there (f x) (all_some (map f xs)) ys told in
    ap length b.are ∙ ap suc (as_many_some f xs b.others b.rest)

-- ---- what a routine offers

-- the three parts of an offer are there
pub record IsOffer (w : World) (v : Values) (t : Option ℕ) (s : Spec) (o : Offer) : Type 0 where
  pub reads : matching.touches_of w t s.reads ≡ Some o.reads
  pub writes : matching.touches_of w t s.writes ≡ Some o.writes
  pub params : numbers_of v s.params ≡ Some o.params

parts : (a b : Option (List Touch)) (c : Option (List ℤ)) (o : Offer) → offer_by a b c ≡ Some o
    → (a ≡ Some o.reads) × ((b ≡ Some o.writes) × (c ≡ Some o.params))
parts None b c o told = no_some told
parts (Some rs) None c o told = no_some told
parts (Some rs) (Some ws) None o told = no_some told
parts (Some rs) (Some ws) (Some ps) o told =
    let same = some_same (record { reads = rs; writes = ws; params = ps }) o told in (
      ap (λ (u : Offer). Some u.reads) same,
      (ap (λ (u : Offer). Some u.writes) same, ap (λ (u : Offer). Some u.params) same),
    )

pub is_offer : (w : World) (v : Values) (t : Option ℕ) (s : Spec) (o : Offer)
    → offer w v t s ≡ Some o → IsOffer w v t s o
is_offer w v t s o told =
    let all = parts (matching.touches_of w t s.reads) (matching.touches_of w t s.writes)
    (numbers_of v s.params) o told in
    record { reads = all.0; writes = all.1.0; params = all.1.1 }

-- ---- touches are stored

module _ (job : Job) (w : World) (vars : job.vars ≡ stored_infos w.thorns w.storage)
    (long : length w.storage ≡ length (variable_infos w.thorns)) where
  level_kept : (t : Option ℕ) (name : List ℕ) (l : VarId × ℕ) → level_of w t name ≡ Some l
      → IsKept w.storage l
  level_kept None name l told = no_some told
  level_kept (Some t) name l told = by (meant w t (ref_in name)) refl told
    where
      by : (r : Result Levels ScopeFault) → meant w t (ref_in name) ≡ r → only_level r ≡ Some l
          → IsKept w.storage l
      by (Err e) is told = no_some told
      by (Ok []) is told = no_some told
      by (Ok (m ∷ n ∷ rest)) is told = no_some told
      by (Ok (m ∷ [])) is told =
          subst (λ k. IsKept w.storage k) (some_same m l told)
          (first_of (IsKept w.storage) m []
          (resolved_kept w.thorns w.sight w.storage t (ref_in name) (m ∷ []) is))

  want_stored : (t : Option ℕ) (want : Want) (z : Touch) → touch_of w t want ≡ Some z
      → IsTouch job z
  want_stored t want z told = by (level_of w t want.name) refl told
    where
      by : (o : Option (VarId × ℕ)) → level_of w t want.name ≡ o → touch_by want o ≡ Some z
          → IsTouch job z
      by None is told = no_some told
      by (Some l) is told =
          subst (λ u. IsTouch job u)
          (some_same (record {
            var = l.0;
            level = l.1;
            region = want.region;
            reach = want.reach;
          }) z told)
          (kept_stored job w vars long l.0 l.1 (level_kept t want.name l is))

  -- a matched item has the touches of its routine's names
  pub matched_whole : (v : Values) (specs : List Spec) (x y : Item) → IsMatched w v specs x y
      → IsItem job y
  matched_whole v specs x y m =
      let t : Option ℕ = thorn_number w.thorns x.thorn in
      let o = is_offer w v t m.spec m.given m.offered in
      subst (λ z. IsItem job z) (sym m.is)
      (record {
        reads = each_some (IsTouch job) (touch_of w t) (want_stored t)
            m.spec.reads m.given.reads o.reads;
        writes = each_some (IsTouch job) (touch_of w t) (want_stored t)
            m.spec.writes m.given.writes o.writes;
      })

  -- ---- by the schedule

  entry_whole : (e : Entry) (path : List ℕ) → IsItem job (item_of w e path)
  entry_whole e path = (let names = are_names job w vars long e in
      record { reads = names.reads; writes = names.writes })

  forest_whole : (f : Forest) → All (IsItem job) (forest_items w f)
  forest_whole Done = none_in (IsItem job)
  forest_whole (Then e path inside rest) =
      All-append (IsItem job)
      (if e.block.group then forest_items w inside else item_of w e path ∷ [])
      (forest_items w rest) (by e.block.group (forest_whole inside)) (forest_whole rest)
    where
      by : (b : Bool) → All (IsItem job) (forest_items w inside)
          → All (IsItem job) (if b then forest_items w inside else item_of w e path ∷ [])
      by true inner = inner
      by false inner = All-cons (IsItem job) (item_of w e path) [] (entry_whole e path)
          (none_in (IsItem job))

  -- the items of a plan touch what its entries' names stand for
  pub planned_whole : (fs : List Forest) → All (IsItem job) (flat_map (forest_items w) fs)
  planned_whole fs = in_all (IsItem job) (forest_items w) fs
      (λ k d within. forest_whole (get_or fs k d))
