-- What thorns see of values: no name of theirs leads to a starred parameter.
use Rattle.std.proofs.Common.{◌≡◌, inl, inr, refl, sym, ◌∙◌, ap, subst, ℕ, zero, suc, ◌+◌, ◌<◌, Bool, true, false, true≢false, ◌&&◌, ◌||◌, eqb, List, [], ◌∷◌, ◌++◌, map, find, length, slice_get, Option, Some, None, arith, if◌then◌else◌}
use Rattle.std.specs.List.{flat_map, list_any, enumerate_from}
use Rattle.std.specs.Option.{option_map, option_and_then, is_some}
use Rattle.std.proofs.lemmas.Bool.{eqb-true}
use Rattle.std.proofs.lemmas.List.Folds.{list_any-append}
use Rattle.std.proofs.lemmas.Option.{slice_get-map, slice_get_within}
use Rattle.cx_text.specs.Lexemes.{same_name, among}
use Rattle.cx_plan.specs.Lists.{or_else, first_of_each}
use Rattle.cx_plan.specs.Names.{full_name}
use Rattle.cx_param.specs.declared.declarations.ParamDecl.{ParamDecl}
use Rattle.cx_parfile.specs.declared.settings.Setting.{Setting}
use Rattle.cx_bind.specs.declared.thorns.Thorn.{Thorn}
use Rattle.cx_bind.specs.declared.thorns.Param.{Param}
use Rattle.cx_bind.specs.BuiltIn.{table, starred}
use Rattle.cx_bind.specs.Parameters.{is_global, is_restricted, shared_by, declared_by, known_by, known, is_shared_as, shared_parameter, extended, extensions, parameters}
use Rattle.cx_bind.specs.Faults.{no_parameter_at, no_parameter_by, no_parameter_in}
use Rattle.cx_bind.specs.Binding.{bind_fault}
use Rattle.cx_values.specs.declared.values.Use.{Use}
use Rattle.cx_values.specs.declared.values.Values.{Values}
use Rattle.cx_values.specs.Naming.{Naming, named_in, naming_of, names}
use Rattle.cx_values.specs.Assigned.{use_as, own_use, shared_use, used_by, uses_of, global_use, assigned_by, assigned, holds, known_held, used_as, finds_in, thorn_finds}
use Rattle.cx_job_values.proofs.NoneLaws.{no_some, some_none, second_none, none_at}
use Rattle.law_restarts.specs.Settings.{is_starred, other_settings}
use Rattle.law_restarts.proofs.ListLaws.{Each, each_at, each_both, numbered_at}
use Rattle.law_restarts.proofs.FreshLaws.{Fine, each_use_known, each_fine}
use Rattle.law_restarts.proofs.GivenLaws.{starred_alike, holds_same}

-- ---- uses of parameters that aren't starred

module _ (ps : List Param) where
  abbrev Plain : ℕ → Type 0
  Plain n = is_starred (slice_get ps n) ≡ false

  abbrev AllPlain : List Use → Type 0
  AllPlain us = Each (λ (u : Use). Plain u.parameter) us

  found_plain : (us : List Use) → AllPlain us → (name : List ℕ) (m : ℕ) → used_as name us ≡ Some m
      → Plain m
  found_plain [] all name m e = no_some e
  found_plain (u ∷ us) all name m e = by (same_name u.name name) e (found_plain us all.1 name m)
    where
      by : (b : Bool) → option_map (λ u. u.parameter)
          (if b then Some u else find (λ u. same_name u.name name) us) ≡ Some m
          → (used_as name us ≡ Some m → Plain m) → Plain m
      by true e later = (let at : u.parameter ≡ m = cc in subst Plain at all.0)
      by false e later = later e

  flat_plain : {X : Type 0} (f : ℕ × X → List Use) (k : ℕ) (xs : List X)
      → ((j : ℕ) (x : X) → slice_get xs j ≡ Some x → AllPlain (f (k + j, x)))
      → AllPlain (flat_map f (enumerate_from k xs))
  flat_plain f k [] h = tt
  flat_plain f k (x ∷ xs) h =
      let here : k + 0 ≡ k = omega arith in
      each_both (λ (u : Use). Plain u.parameter) (f (k, x)) (flat_map f (enumerate_from (k + 1) xs))
      (subst (λ i. AllPlain (f (i, x))) here (h zero x refl))
      (flat_plain f (k + 1) xs
      (λ j y at. (let there : k + suc j ≡ (k + 1) + j = omega arith in
      subst (λ i. AllPlain (f (i, y))) there (h (suc j) y at))))

  at_number : (j : ℕ) (p : Param) → slice_get ps j ≡ Some p → among starred p.full ≡ false
      → Plain (0 + j)
  at_number j p at none =
      let same : j ≡ 0 + j = omega arith in
      subst Plain same (ap is_starred at ∙ none)

  module _ (n : ℕ) (all : Each (Fine n) ps) where
    own_plain : (t : ℕ) → t < n → AllPlain (flat_map (own_use t) (enumerate_from 0 ps))
    own_plain t below = flat_plain (own_use t) 0 ps each
      where
        by : (j : ℕ) (p : Param) → slice_get ps j ≡ Some p → Fine n p → (b : Bool)
            → eqb p.thorn t ≡ b → AllPlain (if b then use_as p.decl.name (0 + j) ∷ [] else [])
        by j p at (inl built) true e =
            (let thorn : p.thorn ≡ t = eqb-true p.thorn t e in let last : p.thorn ≡ n = built.0 in
            absurd (omega (arith, below, thorn, last)))
        by j p at (inr none) true e = (at_number j p at none, tt)
        by j p at fine false e = tt

        each : (j : ℕ) (p : Param) → slice_get ps j ≡ Some p → AllPlain (own_use t (0 + j, p))
        each j p at = by j p at (each_at (Fine n) ps j p all at) (eqb p.thorn t) refl

    globals_plain : AllPlain (flat_map global_use (enumerate_from 0 ps))
    globals_plain = flat_plain global_use 0 ps each
      where
        by : (j : ℕ) (p : Param) → slice_get ps j ≡ Some p → Fine n p → (b : Bool)
            → is_global p.decl.scope ≡ b
            → AllPlain (if b then use_as p.decl.name (0 + j) ∷ [] else [])
        by j p at (inl built) true e = absurd (true≢false (sym e ∙ built.1))
        by j p at (inr none) true e = (at_number j p at none, tt)
        by j p at fine false e = tt

        each : (j : ℕ) (p : Param) → slice_get ps j ≡ Some p → AllPlain (global_use (0 + j, p))
        each j p at = by j p at (each_at (Fine n) ps j p all at) (is_global p.decl.scope) refl

-- ---- a parameter that thorns share, by its full name

abbrev pub by_full : ℕ × Param → List Naming
by_full p = naming_of p.0 (Some p.1.full)

module _ (full : List ℕ) where
  abbrev pub has_name : Param → Bool
  has_name p = same_name p.full full

  shared_there : (ds : List Param) → is_some (find (is_shared_as full) (map known_by ds)) ≡ true
      → list_any has_name ds ≡ true
  shared_there [] e = absurd (true≢false (sym e))
  shared_there (d ∷ ds) e = by (is_restricted d.decl.scope) (has_name d) e (shared_there ds)
    where
      by : (r b : Bool) → is_some
          (if r && b then Some (known_by d) else find (is_shared_as full) (map known_by ds)) ≡ true
          → (is_some (find (is_shared_as full) (map known_by ds)) ≡ true
          → list_any has_name ds ≡ true) → (b || list_any has_name ds) ≡ true
      by r true e later = refl
      by true false e later = later e
      by false false e later = later e

  extended_there : (thorns : List Thorn) (ds : List Param)
      → list_any has_name (map (extended (extensions thorns)) ds) ≡ list_any has_name ds
  extended_there thorns [] = refl
  extended_there thorns (d ∷ ds) = ap (λ b. has_name d || b) (extended_there thorns ds)

  parameter_there : (thorns : List Thorn) → is_some (find (is_shared_as full) (known thorns)) ≡ true
      → list_any has_name (parameters thorns) ≡ true
  parameter_there thorns e =
      let ds : List Param = flat_map declared_by (enumerate_from 0 thorns) in
      list_any-append has_name (table (length thorns)) (map (extended (extensions thorns)) ds)
      ∙ ap (λ b. list_any has_name (table (length thorns)) || b) (extended_there thorns ds)
      ∙ sym (list_any-append has_name (table (length thorns)) ds)
      ∙ shared_there (table (length thorns) ++ ds) e

  -- what a full name names, where a parameter has it
  pub full_named : (k : ℕ) (ps : List Param) (more : List Naming) (n : ℕ)
      → list_any has_name ps ≡ true
      → named_in (flat_map by_full (enumerate_from k ps) ++ more) full ≡ Some n
      → (j : ℕ) × (p : Param) × (n ≡ k + j) × (slice_get ps j ≡ Some p) × (has_name p ≡ true)
  full_named k [] more n there e = absurd (true≢false (sym there))
  full_named k (p ∷ ps) more n there e = by (has_name p) refl there e (full_named (k + 1) ps more n)
    where
      rest : List Naming
      rest = flat_map by_full (enumerate_from (k + 1) ps) ++ more

      by : (b : Bool) → has_name p ≡ b → (b || list_any has_name ps) ≡ true
          → option_map (λ n. n.1)
          (if b then Some (p.full, k) else find (λ n. same_name n.0 full) rest) ≡ Some n
          → (list_any has_name ps ≡ true → named_in rest full ≡ Some n
          → (j : ℕ) × (q : Param) × (n ≡ (k + 1) + j) × (slice_get ps j ≡ Some q)
          × (has_name q ≡ true))
          → (j : ℕ) × (q : Param) × (n ≡ k + j) × (slice_get (p ∷ ps) j ≡ Some q)
          × (has_name q ≡ true)
      by true is there e later =
          (let first : k ≡ n = cc in (zero, p, omega (arith, first), refl, is))
      by false is there e later =
          let found = later there e in
          let at : n ≡ (k + 1) + found.0 = found.2 in
          (suc found.0, found.1, omega (arith, at), found.3, found.4)

is_known : (t : Thorn) (d : ParamDecl) (i : List ℕ) (o : _) → no_parameter_at t d i o ≡ None
    → is_some o ≡ true
is_known t d i None e = some_none e
is_known t d i (Some k) e = refl

module _ (thorns : List Thorn) (none : bind_fault thorns ≡ None) where
  abbrev ps : List Param
  ps = parameters thorns

  shared_plain : (t : Thorn) (d : ParamDecl) (i : List ℕ)
      → no_parameter_at t d i (shared_parameter (known thorns) (full_name i d.name)) ≡ None
      → (n : ℕ) → names thorns (full_name i d.name) ≡ Some n → is_starred (slice_get ps n) ≡ false
  unfolding names
  shared_plain t d i fits n e = by (among starred (full_name i d.name)) refl fits
    where
      full : List ℕ
      full = full_name i d.name

      known_as : among starred full ≡ false
          → is_some (find (is_shared_as full) (known thorns)) ≡ true
          → is_starred (slice_get ps n) ≡ false
      known_as other found =
          let at = full_named full 0 ps _ n (parameter_there full thorns found) e in
          let number : n ≡ 0 + at.0 = at.2 in
          let place : n ≡ at.0 = omega (arith, number) in
          ap (λ m. is_starred (slice_get ps m)) place ∙ ap is_starred at.3
          ∙ starred_alike at.1.full full at.4 ∙ other

      by : (b : Bool) → among starred full ≡ b
          → no_parameter_at t d i (if b then None else find (is_shared_as full) (known thorns))
          ≡ None → is_starred (slice_get ps n) ≡ false
      by true star fits = some_none fits
      by false other fits = known_as other
          (is_known t d i (find (is_shared_as full) (known thorns)) fits)

  line_plain : (t : Thorn) (d : ParamDecl) (o : Option (List ℕ))
      → no_parameter_by (known thorns) t d o ≡ None → AllPlain ps (used_by (names thorns) d o)
  line_plain t d None fits = tt
  line_plain t d (Some i) fits = by (names thorns (full_name i d.name)) refl
    where
      by : (o : Option ℕ) → names thorns (full_name i d.name) ≡ o → AllPlain ps (shared_use d o)
      by None e = tt
      by (Some n) e = (shared_plain t d i fits n e, tt)

  lines_plain : (t : Thorn) (ds : List ParamDecl)
      → first_of_each (no_parameter_in (known thorns) t) ds ≡ None
      → AllPlain ps (flat_map (λ d. used_by (names thorns) d (shared_by d.scope)) ds)
  lines_plain t [] fits = tt
  lines_plain t (d ∷ ds) fits =
      each_both (λ (u : Use). is_starred (slice_get ps u.parameter) ≡ false)
      (used_by (names thorns) d (shared_by d.scope))
      (flat_map (λ d. used_by (names thorns) d (shared_by d.scope)) ds)
      (line_plain t d (shared_by d.scope)
      (none_at (no_parameter_in (known thorns) t) (d ∷ ds) 0 d fits refl))
      (lines_plain t ds (second_none (no_parameter_in (known thorns) t d)
      (first_of_each (no_parameter_in (known thorns) t) ds) fits))

  uses_plain : (j : ℕ) (u : ℕ × Thorn) → slice_get (enumerate_from 0 thorns) j ≡ Some u
      → AllPlain ps (uses_of ps (names thorns) u)
  uses_plain j u at =
      let is = numbered_at 0 thorns j u at in
      let number : u.0 ≡ 0 + j = is.0 in
      let within : j < length thorns = slice_get_within thorns j u.1 is.1 in
      each_both (λ (u : Use). is_starred (slice_get ps u.parameter) ≡ false)
      (flat_map (own_use u.0) (enumerate_from 0 ps))
      (flat_map (λ d. used_by (names thorns) d (shared_by d.scope)) u.1.params)
      (own_plain ps (length thorns) (each_fine thorns none) u.0 (omega (arith, number, within)))
      (lines_plain u.1 u.1.params
      (none_at (λ t. first_of_each (no_parameter_in (known thorns) t) t.params) thorns j u.1
      (each_use_known thorns none) is.1))

  -- ---- what expressions see

  module _ (one other : List Setting)
      (same : other_settings thorns one ≡ other_settings thorns other) where
    abbrev a : Values
    a = assigned_by ps (names thorns) thorns one

    abbrev b : Values
    b = assigned_by ps (names thorns) thorns other

    module _ (name : List ℕ) (index : Option ℕ) where
      used_plain : (us : List Use) → AllPlain ps us → (o : Option ℕ) → used_as name us ≡ o → (m : ℕ)
          → or_else o (used_as name a.globals) ≡ Some m → is_starred (slice_get ps m) ≡ false
      used_plain us all None e m found =
          found_plain ps a.globals (globals_plain ps (length thorns) (each_fine thorns none))
          name m found
      used_plain us all (Some n) e m found = found_plain ps us all name m (e ∙ found)

      at_use : (us : List Use) → AllPlain ps us
          → finds_in a us name index ≡ finds_in b us name index
      at_use us all = by (or_else (used_as name us) (used_as name a.globals)) refl
        where
          by : (o : Option ℕ) → or_else (used_as name us) (used_as name a.globals) ≡ o
              → option_and_then (holds a index) o ≡ option_and_then (holds b index) o
          by None e = refl
          by (Some m) e = holds_same ps (names thorns) thorns one other same m index
              (used_plain us all (used_as name us) refl m e)

      at_thorn : (j : ℕ) (o : Option (ℕ × Thorn)) → slice_get (enumerate_from 0 thorns) j ≡ o
          → known_held (option_and_then (λ uses. finds_in a uses name index)
          (option_map (uses_of ps (names thorns)) o))
          ≡ known_held (option_and_then (λ uses. finds_in b uses name index)
          (option_map (uses_of ps (names thorns)) o))
      at_thorn j None e = refl
      at_thorn j (Some u) e =
          ap known_held (at_use (uses_of ps (names thorns) u) (uses_plain j u e))

      seen_by : (t : ℕ) → thorn_finds a t name index ≡ thorn_finds b t name index
      seen_by t =
          let places = slice_get-map (uses_of ps (names thorns)) (enumerate_from 0 thorns) t in
          ap (λ o. known_held (option_and_then (λ uses. finds_in a uses name index) o)) places
          ∙ at_thorn t (slice_get (enumerate_from 0 thorns) t) refl
          ∙ sym (ap (λ o. known_held (option_and_then (λ uses. finds_in b uses name index) o))
          places)

    pub finds_same : (t : ℕ) (name : List ℕ) (index : Option ℕ)
        → thorn_finds (assigned thorns one) t name index
        ≡ thorn_finds (assigned thorns other) t name index
    unfolding assigned
    finds_same t name index = seen_by name index t
