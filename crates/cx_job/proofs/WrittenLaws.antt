-- What is written rises, and is stored.
use Rattle.std.proofs.Common.{◌≡◌, refl, sym, ◌∙◌, ap, subst, ℕ, ◌<◌, Bool, true, false, List, [], ◌∷◌, map, length, get_or, Option, Some, None, Result, Ok, Err, if◌then◌else◌, arith, zero-add, ltb-true}
use Rattle.std.specs.Prelude.{◌&&◌, ◌||◌, not, filter, All, AllPairs, slice_index_or}
use Rattle.std.specs.List.{list_any, enumerate_from}
use Rattle.std.proofs.lemmas.List.{get_or-map}
use Rattle.std.proofs.lemmas.List.Elements.{All-filter, All-map, filter_passes}
use Rattle.std.proofs.lemmas.List.Folds.{list_any_at}
use Rattle.std.proofs.lemmas.List.FromFn.{length-enumerate_from, get_or-enumerate_from}
use Rattle.std.proofs.lemmas.List.Kept.{AllPairs-filter}
use Rattle.cx_plan.specs.Lookups.{no_variable}
use Rattle.cx_plan.specs.Lists.{with_next, all_ok}
use Rattle.cx_plan.specs.declared.variable.VarId.{VarId}
use Rattle.cx_plan.specs.declared.variable.VarInfo.{VarInfo}
use Rattle.cx_bind.specs.declared.thorns.Thorn.{Thorn}
use Rattle.cx_bind.specs.Variables.{variable_infos}
use Rattle.cx_values.specs.declared.values.Values.{Values}
use Rattle.cx_scope.specs.declared.fault.ScopeFault.{ScopeFault}
use Rattle.cx_scope.specs.declared.fault.ScopeFault.TheVariants.{NoStorage}
use Rattle.cx_scope.specs.Resolving.{var_id}
use Rattle.cx_job.specs.declared.groups.GroupPlace.{GroupPlace}
use Rattle.cx_job.specs.declared.groups.FullGroup.{FullGroup}
use Rattle.cx_job.specs.declared.outputs.Named.{Named}
use Rattle.cx_job.proofs.OutputLaws.{as_long, all_placed, meaning}
use Rattle.cx_job.specs.Outputs.{named_by, is_of, is_stored, is_missing, lacks_storage, output_of, outputs, is_written, named_ids, group_places, full_groups, output_names, ids_or_fault, output_variables}
use Rattle.cx_job_values.specs.Stored.{stored_info, stored_infos}
use Rattle.cx_job.proofs.StoredLaws.{as_many_stored}

-- ---- lists

pairs_mapped : {X Y : Type 0} (R : Y → Y → Type 0) (f : X → Y) (xs : List X)
    → AllPairs (λ a b. R (f a) (f b)) xs → AllPairs R (map f xs)
pairs_mapped R f [] h i j d before within = absurd (let no : ⊥ = omega (arith, within) in no)
pairs_mapped R f (x ∷ xs) h i j d before within =
    let long : length (map f (x ∷ xs)) ≡ length (x ∷ xs) = as_long f (x ∷ xs) in
    let later : j < length (x ∷ xs) = omega (arith, within, long) in
    let sooner : i < length (x ∷ xs) = omega (arith, before, later) in
    subst (λ y. R y (get_or (map f (x ∷ xs)) j d)) (sym (get_or-map f (x ∷ xs) i x d sooner))
    (subst (λ y. R (f (get_or (x ∷ xs) i x)) y) (sym (get_or-map f (x ∷ xs) j x d later))
    (h i j x before later))

-- ---- numbers rise

numbers_rise : {X : Type 0} (xs : List X)
    → AllPairs (λ (a b : ℕ × X). a.0 < b.0) (enumerate_from 0 xs)
numbers_rise xs i j d before within =
    let later : j < length xs =
    (let long = length-enumerate_from 0 xs in omega (arith, long, within)) in
    let sooner : i < length xs = omega (arith, before, later) in
    let a = ap (λ v. v.0) (get_or-enumerate_from 0 xs i d sooner) in
    let b = ap (λ v. v.0) (get_or-enumerate_from 0 xs j d later) in
    omega (arith, a, b, before)

pub ids_rise : (places : List GroupPlace) (named : List Named)
    → AllPairs (λ (a b : VarId). a.0 < b.0) (named_ids places named)
ids_rise places named =
    pairs_mapped (λ (a b : VarId). a.0 < b.0) (λ v. var_id v.0)
    (filter (is_written named) (enumerate_from 0 places))
    (AllPairs-filter (λ (a b : ℕ × GroupPlace). a.0 < b.0) (is_written named)
    (enumerate_from 0 places) (numbers_rise places))

-- ---- what is written is stored

abbrev ok : Named → Result Named ScopeFault
ok named = Ok named

abbrev all : List Named → Result (List Named) ScopeFault
all named = Ok named

abbrev written_ids : List VarId → Result (List VarId) ScopeFault
written_ids ids = Ok ids

module _ (vars : List VarInfo) (groups : List FullGroup) (places : List GroupPlace)
    (storage : List ℕ) where
  stored_if_told : (name : List ℕ) (o : Option Named) (named : Named)
      → output_of places storage name o ≡ Ok named → lacks_storage places storage named ≡ false
  stored_if_told name None named h = cc h
  stored_if_told name (Some other) named h = at (lacks_storage places storage other) refl
    where
      at : (b : Bool) → lacks_storage places storage other ≡ b
          → lacks_storage places storage named ≡ false
      at true e = (let no : Err (NoStorage name) ≡ Ok named =
          ap (λ b. if b then Err (NoStorage name) else Ok other) (sym e) ∙ h in cc no)
      at false e =
          let told : ok other ≡ ok named =
          ap (λ b. if b then Err (NoStorage name) else Ok other) (sym e) ∙ h in
          let same : other ≡ named = cc told in
          ap (λ n. lacks_storage places storage n) (sym same) ∙ e

  -- a name's meaning that has a variable, and lacks no storage
  abbrev Giving : ℕ × GroupPlace → Type 0
  Giving v = (named : Named)
      × ((is_of v named ≡ true) × (lacks_storage places storage named ≡ false))

  giving : (v : ℕ × GroupPlace) (names : List (List ℕ)) (named : List Named)
      → all_ok (map (meaning vars groups places storage) names) ≡ Ok named
      → list_any (is_of v) named ≡ true → Giving v
  giving v [] named h any =
      let empty : [] ≡ named = cc h in
      let no : false ≡ true = ap (λ ns. list_any (is_of v) ns) empty ∙ any in cc no
  giving v (name ∷ names) named h any =
      go (meaning vars groups places storage name) refl
      (all_ok (map (meaning vars groups places storage) names)) refl
      (λ others. giving v names others) h
    where
      go : (r : Result Named ScopeFault) → meaning vars groups places storage name ≡ r
          → (s : Result (List Named) ScopeFault)
          → all_ok (map (meaning vars groups places storage) names) ≡ s
          → ((others : List Named)
          → all_ok (map (meaning vars groups places storage) names) ≡ Ok others
          → list_any (is_of v) others ≡ true → Giving v)
          → with_next (meaning vars groups places storage name)
          (all_ok (map (meaning vars groups places storage) names)) ≡ Ok named → Giving v
      go (Err e) is s are later told =
          (let no : Err e ≡ Ok named =
          ap (λ r. with_next r (all_ok (map (meaning vars groups places storage) names))) (sym is)
          ∙ told in cc no)
      go (Ok first) is (Err e) are later told =
          let no : Err e ≡ Ok named =
          ap (λ s. with_next (Ok first) s) (sym are)
          ∙ ap (λ r. with_next r (all_ok (map (meaning vars groups places storage) names)))
          (sym is) ∙ told in cc no
      go (Ok first) is (Ok others) are later told =
          let both : all (first ∷ others) ≡ all named =
          ap (λ s. with_next (Ok first) s) (sym are)
          ∙ ap (λ r. with_next r (all_ok (map (meaning vars groups places storage) names)))
          (sym is) ∙ told in
          let same : first ∷ others ≡ named = cc both in
          pick (is_of v first) refl (ap (λ ns. list_any (is_of v) ns) same ∙ any)
        where
          pick : (b : Bool) → is_of v first ≡ b
              → (is_of v first || list_any (is_of v) others) ≡ true → Giving v
          pick true e either_ = (
            first,
            (e, stored_if_told name (named_by vars groups name) first is),
          )
          pick false e either_ =
              later others are (ap (λ b. b || list_any (is_of v) others) (sym e) ∙ either_)

  not_missing : (named : Named) (k : ℕ) (d : ℕ × GroupPlace) → k < length (enumerate_from 0 places)
      → lacks_storage places storage named ≡ false
      → is_of (get_or (enumerate_from 0 places) k d) named ≡ true
      → is_stored storage (get_or (enumerate_from 0 places) k d).0 ≡ true
  not_missing named k d within none is =
      at (is_stored storage (get_or (enumerate_from 0 places) k d).0) refl
    where
      at : (b : Bool) → is_stored storage (get_or (enumerate_from 0 places) k d).0 ≡ b
          → is_stored storage (get_or (enumerate_from 0 places) k d).0 ≡ true
      at true e = e
      at false e =
          let here : is_missing storage named (get_or (enumerate_from 0 places) k d) ≡ true =
          ap (λ b. b && not (is_stored storage (get_or (enumerate_from 0 places) k d).0)) is
          ∙ ap not e in
          let no : false ≡ true =
          sym none ∙ list_any_at (is_missing storage named) (enumerate_from 0 places)
          k d within here in cc no

  pub ids_stored : (names : List (List ℕ)) (named : List Named)
      → outputs vars groups places storage names ≡ Ok named
      → All (λ (v : VarId). (v.0 < length places) × (is_stored storage v.0 ≡ true))
      (named_ids places named)
  ids_stored names named told =
      All-map (λ (v : VarId). (v.0 < length places) × (is_stored storage v.0 ≡ true))
      (λ v. var_id v.0) (filter (is_written named) (enumerate_from 0 places)) kept
    where
      each : All (λ (v : ℕ × GroupPlace). (v.0 < length places)
          × (is_written named v ≡ true → is_stored storage v.0 ≡ true)) (enumerate_from 0 places)
      each k d within =
          let later : k < length places =
          (let long = length-enumerate_from 0 places in omega (arith, long, within)) in
          let number = ap (λ v. v.0) (get_or-enumerate_from 0 places k d later) in (
            omega (arith, later, number),
            (λ any. (let g = giving (get_or (enumerate_from 0 places) k d) names named told any in
                not_missing g.0 k d within g.1.1 g.1.0)),
          )

      kept : All (λ (v : ℕ × GroupPlace). (v.0 < length places) × (is_stored storage v.0 ≡ true))
          (filter (is_written named) (enumerate_from 0 places))
      kept k d within =
          let both = All-filter (is_written named)
          (λ (v : ℕ × GroupPlace). (v.0 < length places)
          × (is_written named v ≡ true → is_stored storage v.0 ≡ true))
          (enumerate_from 0 places) each k d within in
          (both.0, both.1 (filter_passes (is_written named) (enumerate_from 0 places) k d within))

-- ---- by the variables of a job

abbrev levels_at : List VarInfo → ℕ → ℕ
levels_at vars k = (slice_index_or vars k no_variable).levels

as_stored : (thorns : List Thorn) (storage : List ℕ) (k : ℕ) → k < length (variable_infos thorns)
    → levels_at (stored_infos thorns storage) k ≡ slice_index_or storage k 0
as_stored thorns storage k within =
    let infos : List VarInfo = variable_infos thorns in
    let long = length-enumerate_from 0 infos in
    ap (λ (v : VarInfo). v.levels)
    (get_or-map (stored_info storage) (enumerate_from 0 infos) k (0, no_variable) no_variable
    (omega (arith, within, long)))
    ∙ ap (λ n. slice_index_or storage n 0)
    (ap (λ v. v.0) (get_or-enumerate_from 0 infos k (0, no_variable) within) ∙ zero-add k)

abbrev IsStoredIn : List VarInfo → VarId → Type 0
IsStoredIn vars v = (v.0 < length vars) × (0 < levels_at vars v.0)

-- What is written is a variable of the job, and level 0 of it is stored.
pub outputs_stored : (thorns : List Thorn) (values : Values) (storage : List ℕ) (ids : List VarId)
    → output_variables thorns values storage ≡ Ok ids
    → All (λ (v : VarId). (v.0 < length (stored_infos thorns storage))
    × (0 < (slice_index_or (stored_infos thorns storage) v.0 no_variable).levels)) ids
outputs_stored thorns values storage ids told =
    by (outputs (variable_infos thorns) (full_groups thorns) (group_places thorns) storage
    (output_names values)) refl
  where
    one : (v : VarId) → (v.0 < length (group_places thorns)) × (is_stored storage v.0 ≡ true)
        → IsStoredIn (stored_infos thorns storage) v
    one v h =
        let many = all_placed thorns in
        let same = as_many_stored thorns storage in
        let within : v.0 < length (variable_infos thorns) = omega (arith, h.0, many) in
        let levels = as_stored thorns storage v.0 within in
        let some = ltb-true 0 (slice_index_or storage v.0 0) h.1 in
        (omega (arith, within, same), omega (arith, levels, some))

    by : (r : Result (List Named) ScopeFault)
        → outputs (variable_infos thorns) (full_groups thorns) (group_places thorns) storage
        (output_names values) ≡ r → All (IsStoredIn (stored_infos thorns storage)) ids
    by (Err e) is = (let no : Err e ≡ Ok ids =
        ap (λ r. ids_or_fault (group_places thorns) r) (sym is) ∙ told in cc no)
    by (Ok named) is =
        let same : written_ids (named_ids (group_places thorns) named) ≡ written_ids ids =
        ap (λ r. ids_or_fault (group_places thorns) r) (sym is) ∙ told in
        let equal : named_ids (group_places thorns) named ≡ ids = cc same in
        subst (λ vs. All (IsStoredIn (stored_infos thorns storage)) vs) equal
        (λ k d within. one (slice_index_or (named_ids (group_places thorns) named) k d)
        (ids_stored (variable_infos thorns) (full_groups thorns) (group_places thorns) storage
        (output_names values) named is k d within))

-- What is written rises.
pub outputs_rise : (thorns : List Thorn) (values : Values) (storage : List ℕ) (ids : List VarId)
    → output_variables thorns values storage ≡ Ok ids → AllPairs (λ (a b : VarId). a.0 < b.0) ids
outputs_rise thorns values storage ids told =
    by (outputs (variable_infos thorns) (full_groups thorns) (group_places thorns) storage
    (output_names values)) refl
  where
    by : (r : Result (List Named) ScopeFault)
        → outputs (variable_infos thorns) (full_groups thorns) (group_places thorns) storage
        (output_names values) ≡ r → AllPairs (λ (a b : VarId). a.0 < b.0) ids
    by (Err e) is = (let no : Err e ≡ Ok ids =
        ap (λ r. ids_or_fault (group_places thorns) r) (sym is) ∙ told in cc no)
    by (Ok named) is =
        let same : written_ids (named_ids (group_places thorns) named) ≡ written_ids ids =
        ap (λ r. ids_or_fault (group_places thorns) r) (sym is) ∙ told in
        let equal : named_ids (group_places thorns) named ≡ ids = cc same in
        subst (λ vs. AllPairs (λ (a b : VarId). a.0 < b.0) vs) equal
        (ids_rise (group_places thorns) named)
