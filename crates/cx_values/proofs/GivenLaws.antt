-- What settings give, one after another.
use Rattle.std.proofs.Common.{◌≡◌, refl, sym, ◌∙◌, ap, ℕ, ◌+◌, ◌<◌, ◌==◌, Bool, true, false, ◌⊎◌, inl, inr, ◌||◌, ◌&&◌, List, [], ◌∷◌, ◌++◌, length, take, drop, get_or, slice_get, Option, Some, None}
use Rattle.std.specs.Option.{option_map, option_and_then}
use Rattle.std.proofs.Math.Path.{fun_ext}
use Rattle.std.proofs.lemmas.List.Folds.{list_any-append}
use Rattle.std.specs.List.{list_any, flat_map}
use Rattle.cx_plan.specs.Lists.{or_else}
use Rattle.cx_parfile.specs.declared.settings.Setting.{Setting}
use Rattle.cx_bind.specs.declared.thorns.Param.{Param}
use Rattle.cx_values.specs.declared.fault.ValueFault.{ValueFault}
use Rattle.cx_values.specs.declared.values.Given.{Given}
use Rattle.cx_values.specs.Naming.{Names, element, target_in, target_at}
use Rattle.cx_values.specs.Special.{is_target, sets}
use Rattle.cx_values.specs.Faults.{set_before, setting_fault, settings_fault}
use Rattle.cx_values.specs.Assigned.{given_of, given_at, given_by, is_given, given_before}
use Rattle.cx_values.proofs.Along.{taken, left_over}
use Rattle.cx_plan.specs.Names.{with_owner}

or_false : (b : Bool) → (b || false) ≡ b
or_false true = refl
or_false false = refl

-- ---- what a setting gives

module _ (ps : List Param) (n : ℕ) (p : Param) (there : slice_get ps n ≡ Some p) where
  at_element : (text : List ℕ) (i : Option ℕ)
      → given_at ps text (option_map (λ k. (n, k)) i)
      ≡ given_of text (option_map (λ k. (n, k)) i) (Some p)
  at_element text None = refl
  at_element text (Some k) = ap (λ q. given_of text (Some (n, k)) q) there

  pub given_there : (names : Names) (s : Setting) → names (with_owner s.owner s.name) ≡ Some n
      → given_by ps names s ≡ given_of s.value (target_in s.index n (Some p)) (Some p)
  given_there names s named =
      ap (λ o. given_at ps s.value (option_and_then (target_at ps s.index) o)) named
      ∙ ap (λ q. given_at ps s.value (target_in s.index n q)) there
      ∙ at_element s.value (element p.decl.length s.index)

-- ---- what is set already

module _ (ps : List Param) (n k : ℕ) (text : List ℕ) (index : Option ℕ) where
  seen_element : (m : ℕ) (p : Param) → slice_get ps m ≡ Some p → (i : Option ℕ)
      → list_any (is_given n k) (given_at ps text (option_map (λ j. (m, j)) i))
      ≡ is_target n k (option_map (λ j. (m, j)) i)
  seen_element m p there None = refl
  seen_element m p there (Some j) =
      ap (λ q. list_any (is_given n k) (given_of text (Some (m, j)) q)) there
      ∙ or_false (m == n && j == k)

  seen_parameter : (m : ℕ) (q : Option Param) → slice_get ps m ≡ q
      → list_any (is_given n k) (given_at ps text (target_in index m q))
      ≡ is_target n k (target_in index m q)
  seen_parameter m None there = refl
  seen_parameter m (Some p) there = seen_element m p there (element p.decl.length index)

  seen_named : (o : Option ℕ)
      → list_any (is_given n k) (given_at ps text (option_and_then (target_at ps index) o))
      ≡ is_target n k (option_and_then (target_at ps index) o)
  seen_named None = refl
  seen_named (Some m) = seen_parameter m (slice_get ps m) refl

module _ (ps : List Param) (names : Names) where
  one_seen : (n k : ℕ) (s : Setting)
      → list_any (is_given n k) (given_by ps names s) ≡ sets ps names n k s
  one_seen n k s = seen_named ps n k s.value s.index (names (with_owner s.owner s.name))

  seen_before : (n k : ℕ) (before : List Setting)
      → given_before (flat_map (given_by ps names) before) n k ≡ set_before ps names before n k
  seen_before n k [] = refl
  seen_before n k (s ∷ before) =
      list_any-append (is_given n k) (given_by ps names s) (flat_map (given_by ps names) before)
      ∙ ap (λ b. b || list_any (is_given n k) (flat_map (given_by ps names) before))
      (one_seen n k s)
      ∙ ap (λ b. sets ps names n k s || b) (seen_before n k before)

  pub same_seen : (given : List Given) (before : List Setting)
      → given ≡ flat_map (given_by ps names) before
      → given_before given ≡ set_before ps names before
  same_seen given before is =
      ap (λ given. given_before given) is ∙ fun_ext (λ n. fun_ext (λ k. seen_before n k before))

-- ---- the first fault, one setting on

one_passed : (a b : Option ValueFault) → a ≡ None → or_else a b ≡ b
one_passed a b e = ap (λ a. or_else a b) e

one_met : (a b : Option ValueFault) (fault : ValueFault) → a ≡ Some fault → or_else a b ≡ Some fault
one_met a b fault e = ap (λ a. or_else a b) e

module _ (ps : List Param) (names : Names) (dir : List ℕ) (settings : List Setting) (k : ℕ)
    (s : Setting) (within : k < length settings) (at : s ≡ get_or settings k s) (given : List Given)
    (is : given ≡ flat_map (given_by ps names) (take k settings))
    (left : settings_fault ps names dir (take k settings) (drop k settings)
    ≡ settings_fault ps names dir [] settings) where
  abbrev here : Option ValueFault
  here = setting_fault ps names dir (set_before ps names (take k settings)) s

  abbrev later : Option ValueFault
  later = settings_fault ps names dir (take k settings ++ s ∷ []) (drop (k + 1) settings)

  same_fault : setting_fault ps names dir (given_before given) s ≡ here
  same_fault = ap (λ seen. setting_fault ps names dir seen s)
      (same_seen ps names given (take k settings) is)

  opened : or_else here later ≡ settings_fault ps names dir [] settings
  opened =
      sym (ap (λ rest. settings_fault ps names dir (take k settings) rest)
      (left_over settings k s within at)) ∙ left

  pub fault_on : setting_fault ps names dir (given_before given) s ≡ None
      → settings_fault ps names dir (take (k + 1) settings) (drop (k + 1) settings)
      ≡ settings_fault ps names dir [] settings
  fault_on none =
      ap (λ part. settings_fault ps names dir part (drop (k + 1) settings))
      (taken settings k s within at)
      ∙ sym (one_passed here later (sym same_fault ∙ none))
      ∙ opened

  pub fault_told : (none fault : ValueFault)
      → (fault ≡ none) ⊎ (setting_fault ps names dir (given_before given) s ≡ Some fault)
      → (fault ≡ none) ⊎ (settings_fault ps names dir [] settings ≡ Some fault)
  fault_told none fault (inl memory) = inl memory
  fault_told none fault (inr some) =
      inr (sym opened ∙ one_met here later fault (sym same_fault ∙ some))
