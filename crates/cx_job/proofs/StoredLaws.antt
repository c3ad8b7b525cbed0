-- The variables of a job, by those of its thorns.
use Rattle.std.proofs.Common.{◌≡◌, ◌≢◌, refl, sym, ◌∙◌, ap, subst, ℕ, ◌<◌, Bool, true, false, List, [], ◌∷◌, ◌++◌, map, length, get_or, Option, Some, None, if◌then◌else◌, arith, zero-add}
use Rattle.std.specs.Prelude.{◌||◌, All, AllPairs}
use Rattle.std.specs.Option.{option_map}
use Rattle.std.specs.List.{list_any, enumerate_from}
use Rattle.std.specs.Char.{to_ascii_lowercase}
use Rattle.std.specs.Str.{bytes_eq}
use Rattle.std.proofs.lemmas.List.{get_or-map}
use Rattle.std.proofs.lemmas.List.Elements.{All-cons}
use Rattle.std.proofs.lemmas.List.FromFn.{length-enumerate_from, get_or-enumerate_from}
use Rattle.std.proofs.lemmas.List.Folds.{list_any-append}
use Rattle.std.proofs.lemmas.List.Kept.{AllPairs-cons}
use Rattle.cx_text.specs.Lexemes.{same_name}
use Rattle.cx_plan.specs.Lists.{first_again_behind}
use Rattle.cx_plan.specs.declared.variable.VarInfo.{VarInfo}
use Rattle.cx_bind.specs.declared.thorns.Thorn.{Thorn}
use Rattle.cx_bind.specs.declared.thorns.BindFault.TheVariants.{TwoVariables}
use Rattle.cx_bind.specs.Faults.{is_same_variable, two_variables}
use Rattle.cx_bind.specs.Variables.{variable_infos}
use Rattle.cx_job_values.specs.Stored.{stored_info, stored_infos}
use Rattle.cx_job_values.proofs.NoneLaws.{some_none}
use Rattle.cx_job.proofs.OutputLaws.{as_long}

-- ---- elements that are the same as none before

first_false : (a b : Bool) → (a || b) ≡ false → a ≡ false
first_false false b e = refl
first_false true b e = e

second_false : (a b : Bool) → (a || b) ≡ false → b ≡ false
second_false false b e = e
second_false true b e = absurd cc

module _ {X : Type 0} (same : X → X → Bool) where
  not_met : (b : Bool) (x : X) (o : Option X) → (if b then Some x else o) ≡ None → b ≡ false
  not_met false x o none = refl
  not_met true x o none = some_none none

  past : (b : Bool) (x : X) (o : Option X) → (if b then Some x else o) ≡ None → o ≡ None
  past false x o none = none
  past true x o none = some_none none

  -- none of a list is the same as one of those before it
  unlike : (before xs : List X) → first_again_behind same before xs ≡ None
      → All (λ y. list_any (same y) before ≡ false) xs
  unlike before [] none = λ k d within. absurd (let no : ⊥ = omega (arith, within) in no)
  unlike before (x ∷ xs) none =
      let here = not_met (list_any (same x) before) x
      (first_again_behind same (before ++ x ∷ []) xs) none in
      let later = unlike (before ++ x ∷ []) xs
      (past (list_any (same x) before) x (first_again_behind same (before ++ x ∷ []) xs) none)
      in
      All-cons (λ y. list_any (same y) before ≡ false) x xs here
      (λ k d within. first_false (list_any (same (get_or xs k d)) before)
      (list_any (same (get_or xs k d)) (x ∷ []))
      (sym (list_any-append (same (get_or xs k d)) before (x ∷ [])) ∙ later k d within))

  pub all_unlike : (before xs : List X) → first_again_behind same before xs ≡ None
      → AllPairs (λ a b. same b a ≡ false) xs
  all_unlike before [] none =
      λ i j d order within. absurd (let no : ⊥ = omega (arith, within) in no)
  all_unlike before (x ∷ xs) none =
      let rest = past (list_any (same x) before) x (first_again_behind same (before ++ x ∷ []) xs)
      none in
      let later = unlike (before ++ x ∷ []) xs rest in
      AllPairs-cons (λ a b. same b a ≡ false) x xs
      (λ k d within. first_false (same (get_or xs k d) x) false
      (second_false (list_any (same (get_or xs k d)) before)
      (list_any (same (get_or xs k d)) (x ∷ []))
      (sym (list_any-append (same (get_or xs k d)) before (x ∷ [])) ∙ later k d within)))
      (all_unlike (before ++ x ∷ []) xs rest)

-- ---- names

bytes_same : (bs : List ℕ) → bytes_eq bs bs ≡ true
bytes_same [] = refl
bytes_same (b ∷ bs) = grind (arith, bytes_same bs)

unlike_names : (a b : VarInfo) → is_same_variable b a ≡ false → a.full ≢ b.full
unlike_names a b unlike_ same =
    let itself : same_name b.full b.full ≡ true = bytes_same (map to_ascii_lowercase b.full) in
    let other : same_name b.full b.full ≡ false =
    ap (λ name. same_name b.full name) (sym same) ∙ unlike_ in
    let e : true ≡ false = sym itself ∙ other in
    absurd cc

none_again : (infos : List VarInfo) → two_variables infos ≡ None
    → first_again_behind is_same_variable [] infos ≡ None
none_again infos none = by (first_again_behind is_same_variable [] infos) none
  where
    by : (o : Option VarInfo) → option_map (λ v. TwoVariables v.full) o ≡ None → o ≡ None
    by None e = refl
    by (Some v) e = some_none e

pub names_differ : (infos : List VarInfo) → two_variables infos ≡ None
    → AllPairs (λ (a b : VarInfo). a.full ≢ b.full) infos
names_differ infos none =
    λ i j d order within. unlike_names (get_or infos i d) (get_or infos j d)
    (all_unlike is_same_variable [] infos (none_again infos none) i j d order within)

-- ---- the variables with their stored levels

module _ (thorns : List Thorn) (storage : List ℕ) where
  pub as_many_stored : length (stored_infos thorns storage) ≡ length (variable_infos thorns)
  as_many_stored = as_long (stored_info storage) (enumerate_from 0 (variable_infos thorns))
      ∙ length-enumerate_from 0 (variable_infos thorns)

  declared_too : (k : ℕ) → k < length (stored_infos thorns storage)
      → k < length (variable_infos thorns)
  declared_too k within = (let same = as_many_stored in omega (arith, within, same))

  pub stored_at : (k : ℕ) (d : VarInfo) → k < length (variable_infos thorns)
      → get_or (stored_infos thorns storage) k d
      ≡ stored_info storage (k, get_or (variable_infos thorns) k d)
  stored_at k d within =
      let infos : List VarInfo = variable_infos thorns in
      let long = length-enumerate_from 0 infos in
      get_or-map (stored_info storage) (enumerate_from 0 infos) k (0, d) d
      (omega (arith, within, long))
      ∙ ap (stored_info storage) (get_or-enumerate_from 0 infos k (0, d) within)
      ∙ ap (λ n. stored_info storage (n, get_or infos k d)) (zero-add k)

  -- what is told of each declared variable and of how many levels of it are stored
  pub each_stored : (P : VarInfo → Type 0)
      → ((k : ℕ) (d : VarInfo) → k < length (variable_infos thorns)
      → P (stored_info storage (k, get_or (variable_infos thorns) k d)))
      → All P (stored_infos thorns storage)
  each_stored P each k d within =
      subst P (sym (stored_at k d (declared_too k within))) (each k d (declared_too k within))

  pub names_kept : (P : List ℕ → Type 0) → All (λ (v : VarInfo). P v.full) (variable_infos thorns)
      → All (λ (v : VarInfo). P v.full) (stored_infos thorns storage)
  names_kept P each = each_stored (λ (v : VarInfo). P v.full) (λ k d within. each k d within)

  pub stored_differ : two_variables (variable_infos thorns) ≡ None
      → AllPairs (λ (a b : VarInfo). a.full ≢ b.full) (stored_infos thorns storage)
  stored_differ none i j d order within =
      let later = declared_too j within in
      let sooner : i < length (variable_infos thorns) = omega (arith, order, later) in
      let a = ap (λ (v : VarInfo). v.full) (stored_at i d sooner) in
      let b = ap (λ (v : VarInfo). v.full) (stored_at j d later) in
      λ same. names_differ (variable_infos thorns) none i j d order later (sym a ∙ same ∙ b)
