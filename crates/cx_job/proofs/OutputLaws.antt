-- Names that mean something, one more at a time, and the variables that they give.
use Rattle.std.proofs.Common.{◌≡◌, refl, sym, ◌∙◌, ap, subst, ◌⊎◌, inl, inr, ℕ, suc, ◌+◌, ◌<◌, ◌^◌, Bool, true, false, List, [], ◌∷◌, ◌++◌, map, length, take, drop, get_or, Option, None, Result, Err, arith}
use Rattle.std.specs.Prelude.{◌||◌, filter}
use Rattle.std.specs.List.{list_any, enumerate_from, flat_map}
use Rattle.std.proofs.lemmas.List.{drop_more, get_or_default, map-append, length-append}
use Rattle.indexmap.proofs.SetLemmas.{filter_keep, filter_skip}
use Rattle.cx_iface.specs.declared.tree.Group.{Group}
use Rattle.cx_plan.specs.declared.variable.VarInfo.{VarInfo}
use Rattle.cx_scope.specs.declared.fault.ScopeFault.{ScopeFault}
use Rattle.cx_scope.specs.declared.fault.ScopeFault.TheVariants.{Memory}
use Rattle.cx_plan.specs.declared.variable.VarId.{VarId}
use Rattle.cx_bind.specs.declared.thorns.Thorn.{Thorn}
use Rattle.cx_bind.specs.Binding.{bind_fault}
use Rattle.cx_bind.specs.Variables as of_bind
use Rattle.cx_bind.specs.Variables.{Variable, OwnedGroup, copies, variable_infos}
use Rattle.std.proofs.lemmas.Grind.{flat_map-append}
use Rattle.cx_scope.specs.Resolving.{var_id}
use Rattle.cx_text.specs.Telling.{Answers}
use Rattle.cx_scope.specs.Names.{named_group, named_copy, copies_of, variables_in, variables_of, named_variables}
use Rattle.cx_scope.proofs.NameLaws.{few}
use Rattle.cx_values.proofs.Along.{one_numbered}
use Rattle.cx_job_items.proofs.AllLaws.{Given, given_fault}
use Rattle.cx_values.specs.declared.values.Values.{Values}
use Rattle.cx_job.specs.declared.groups.GroupPlace.{GroupPlace}
use Rattle.cx_job.specs.declared.groups.FullGroup.{FullGroup}
use Rattle.cx_job.specs.declared.outputs.Named.{Named}
use Rattle.cx_job.specs.Outputs.{group_place, full_groups, places_of_copies, places_in, places_of, group_places, output_names, named_by, output_of, outputs, is_written, named_ids, ids_or_fault, output_variables}

module _ (vars : List VarInfo) (groups : List FullGroup) (places : List GroupPlace)
    (storage : List ℕ) where
  abbrev pub meaning : List ℕ → Result Named ScopeFault
  meaning name = output_of places storage name (named_by vars groups name)

  abbrev pub Outputs : List (List ℕ) → ℕ → List Named → Type 0
  Outputs names k named = Given meaning names k named

  pub one_fault : (names : List (List ℕ)) (k : ℕ) (name : List ℕ) (named : List Named)
      (e : ScopeFault) → k < length names → name ≡ get_or names k name → Outputs names k named
      → (e ≡ Memory) ⊎ (meaning name ≡ Err e)
      → (e ≡ Memory) ⊎ (outputs vars groups places storage names ≡ Err e)
  one_fault names k name named e within at before (inl memory) = inl memory
  one_fault names k name named e within at before (inr is) =
      inr (given_fault meaning names k name named e within at is before)

-- ---- whether any passes

pub not_yet : {X : Type 0} (test : ℕ × X → Bool) (xs : List X) (k : ℕ) (d : X) {b : Bool}
    → k < length xs → b ≡ test (k, get_or xs k d) → b ≡ false
    → list_any test (enumerate_from k (drop k xs)) ≡ list_any test (enumerate_from 0 xs)
    → list_any test (enumerate_from (k + 1) (drop (k + 1) xs)) ≡ list_any test (enumerate_from 0 xs)
not_yet test xs k d within is not before =
    sym (ap (λ rest. list_any test (enumerate_from k rest)) (drop_more xs k d within)
    ∙ ap (λ b. b || list_any test (enumerate_from (k + 1) (drop (k + 1) xs))) (sym is ∙ not))
    ∙ before

-- ---- the variables that are named

module _ (places : List GroupPlace) (named : List Named) (k : ℕ) (d : GroupPlace) {b : Bool}
    (within : k < length places) (is : b ≡ is_written named (k, get_or places k d)) where
  abbrev here : GroupPlace
  here = get_or places k d

  at : here ≡ get_or places k here
  at = get_or_default places k d here within

  pub id_kept : {written written2 : List VarId} → b ≡ true
      → written ≡ named_ids (take k places) named → written2 ≡ written ++ var_id k ∷ []
      → written2 ≡ named_ids (take (k + 1) places) named
  id_kept yes_ before after =
      after
      ∙ ap (λ ids. ids ++ var_id k ∷ []) before
      ∙ sym (map-append (λ (v : ℕ × GroupPlace). var_id v.0)
      (filter (is_written named) (enumerate_from 0 (take k places))) ((k, here) ∷ []))
      ∙ ap (λ vs. map (λ (v : ℕ × GroupPlace). var_id v.0) vs)
      (sym (filter_keep (is_written named) (enumerate_from 0 (take k places)) (k, here)
      (sym is ∙ yes_)))
      ∙ ap (λ vs. map (λ (v : ℕ × GroupPlace). var_id v.0) (filter (is_written named) vs))
      (sym (one_numbered places k here within at))

  pub id_left_out : {written : List VarId} → b ≡ false → written ≡ named_ids (take k places) named
      → written ≡ named_ids (take (k + 1) places) named
  id_left_out no_ before =
      before
      ∙ ap (λ vs. map (λ (v : ℕ × GroupPlace). var_id v.0) vs)
      (sym (filter_skip (is_written named) (enumerate_from 0 (take k places)) (k, here)
      (sym is ∙ no_)))
      ∙ ap (λ vs. map (λ (v : ℕ × GroupPlace). var_id v.0) (filter (is_written named) vs))
      (sym (one_numbered places k here within at))

-- ---- each variable has a group's place

pub as_long : {X Y : Type 0} (f : X → Y) (xs : List X) → length (map f xs) ≡ length xs
as_long f [] = refl
as_long f (x ∷ xs) = ap (λ n. suc n) (as_long f xs)

both_long : {X Y : Type 0} (xs xs2 : List X) (ys ys2 : List Y) → length xs ≡ length ys
    → length xs2 ≡ length ys2 → length (xs ++ xs2) ≡ length (ys ++ ys2)
both_long xs xs2 ys ys2 one other =
    length-append xs xs2 ∙ ap (λ n. n + length xs2) one ∙ ap (λ n. length ys + n) other
    ∙ sym (length-append ys ys2)

long_flat : {X Y Z : Type 0} (f : X → List Y) (g : X → List Z) (xs : List X)
    → ((x : X) → length (f x) ≡ length (g x)) → length (flat_map f xs) ≡ length (flat_map g xs)
long_flat f g [] each = refl
long_flat f g (x ∷ xs) each =
    both_long (f x) (flat_map f xs) (g x) (flat_map g xs) (each x) (long_flat f g xs each)

long_copies : (t : ℕ × Thorn) (g : ℕ × Group) (name : List ℕ)
    → length (places_of_copies (group_place t g) g.1.copies)
    ≡ length (copies_of (named_group t g) g.1.copies name)
long_copies t g name = as_long (λ copy. group_place t g) (copies g.1.copies)
    ∙ sym (as_long (named_copy (named_group t g) name) (copies g.1.copies))

long_in : (t : ℕ × Thorn) (g : ℕ × Group) → length (places_in t g) ≡ length (variables_in t g)
long_in t g = long_flat (λ name. places_of_copies (group_place t g) g.1.copies)
    (copies_of (named_group t g) g.1.copies) g.1.variables (long_copies t g)

long_of : (t : ℕ × Thorn) → length (places_of t) ≡ length (variables_of t)
long_of t = long_flat (places_in t) (variables_in t) (enumerate_from 0 t.1.interface.groups)
    (long_in t)

pub as_many : (thorns : List Thorn) → length (group_places thorns) ≡ length (named_variables thorns)
as_many thorns = long_flat places_of variables_of (enumerate_from 0 thorns) long_of

pub few_places : (thorns : List Thorn) → bind_fault thorns ≡ None
    → length (group_places thorns) < 2 ^ 32
few_places thorns fit = (let same = as_many thorns in let most = few thorns fit in
    omega (arith, same, most))

-- the same by the variables of thorns
all_in_names : (at : GroupPlace) (owned : OwnedGroup) (count : Option ℕ) (names : List (List ℕ))
    → length (flat_map (λ name. places_of_copies at count) names)
    ≡ length
    (flat_map (λ name. map {B = Variable}
    (λ copy. record { owned = owned; name = name; copy = copy }) (copies count)) names)
all_in_names at owned count names =
    long_flat (λ name. places_of_copies at count)
    (λ name. map {B = Variable} (λ copy. record { owned = owned; name = name; copy = copy })
    (copies count)) names
    (λ name. as_long (λ copy. at) (copies count)
    ∙ sym (as_long {Y = Variable} (λ copy. record { owned = owned; name = name; copy = copy })
    (copies count)))

all_in_groups : (k : ℕ) (t : Thorn) (j : ℕ) (groups : List Group)
    → length (flat_map (places_in (k, t)) (enumerate_from j groups))
    ≡ length (flat_map of_bind.variables_in
    (map (λ g. record { number = k; thorn = t; group = g }) groups))
all_in_groups k t j [] = refl
all_in_groups k t j (g ∷ groups) =
    let owned : OwnedGroup = record { number = k; thorn = t; group = g } in
    both_long (places_in (k, t) (j, g))
    (flat_map (places_in (k, t)) (enumerate_from (j + 1) groups)) (of_bind.variables_in owned)
    (flat_map of_bind.variables_in
    (map (λ h. record { number = k; thorn = t; group = h }) groups))
    (all_in_names (group_place (k, t) (j, g)) owned g.copies g.variables)
    (all_in_groups k t (j + 1) groups)

all_in_thorns : (k : ℕ) (thorns : List Thorn)
    → length (flat_map places_of (enumerate_from k thorns))
    ≡ length (flat_map of_bind.variables_in (flat_map of_bind.groups_of (enumerate_from k thorns)))
all_in_thorns k [] = refl
all_in_thorns k (t ∷ thorns) =
    let later : List OwnedGroup = flat_map of_bind.groups_of (enumerate_from (k + 1) thorns) in
    both_long (places_of (k, t)) (flat_map places_of (enumerate_from (k + 1) thorns))
    (flat_map of_bind.variables_in (of_bind.groups_of (k, t)))
    (flat_map of_bind.variables_in later) (all_in_groups k t 0 t.interface.groups)
    (all_in_thorns (k + 1) thorns)
    ∙ ap length (sym (flat_map-append of_bind.variables_in (of_bind.groups_of (k, t)) later))

pub all_placed : (thorns : List Thorn)
    → length (group_places thorns) ≡ length (variable_infos thorns)
all_placed thorns = all_in_thorns 0 thorns
    ∙ sym (as_long of_bind.variable_info (of_bind.variables thorns))

-- ---- all together

pub as_told : (thorns : List Thorn) (values : Values) (storage : List ℕ) {names : List (List ℕ)}
    {vars : List VarInfo} {groups : List FullGroup} {places : List GroupPlace} {storage2 : List ℕ}
    (result : Result (List VarId) ScopeFault) → names ≡ output_names values
    → vars ≡ variable_infos thorns → groups ≡ full_groups thorns → places ≡ group_places thorns
    → storage2 ≡ storage → Answers Memory
    (ids_or_fault places (outputs vars groups places storage2 names)) result
    → Answers Memory (output_variables thorns values storage) result
as_told thorns values storage {names = names} {vars = vars} {groups = groups} {places = places}
    {storage2 = storage2} result n v g p s answers =
    let A : Result (List VarId) ScopeFault → Type 0 = λ told. Answers Memory told result in
    let same : ids_or_fault places (outputs vars groups places storage2 names)
    ≡ output_variables thorns values storage =
    ap (λ ns. ids_or_fault places (outputs vars groups places storage2 ns)) n
    ∙ ap (λ vs. ids_or_fault places (outputs vs groups places storage2 (output_names values))) v
    ∙ ap (λ gs. ids_or_fault places
    (outputs (variable_infos thorns) gs places storage2 (output_names values))) g
    ∙ ap (λ ps. ids_or_fault ps
    (outputs (variable_infos thorns) (full_groups thorns) ps storage2 (output_names values))) p
    ∙ ap (λ st. ids_or_fault (group_places thorns)
    (outputs (variable_infos thorns) (full_groups thorns) (group_places thorns) st
    (output_names values))) s in
    subst A same answers
