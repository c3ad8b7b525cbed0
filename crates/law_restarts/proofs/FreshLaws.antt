-- No parameter of a thorn that is bound is one that only says how and where a run is done.
use Rattle.std.proofs.Common.{◌≡◌, ◌⊎◌, inl, inr, refl, sym, ◌∙◌, subst, ℕ, ◌<◌, Bool, true, false, ◌||◌, List, [], ◌∷◌, ◌++◌, map, length, get_or, codes, Some, None, arith, if◌then◌else◌}
use Rattle.std.specs.List.{flat_map, enumerate_from, list_any}
use Rattle.std.proofs.lemmas.List.{append_assoc, append-nil, map-append}
use Rattle.std.proofs.lemmas.List.Folds.{list_any-append}
use Rattle.cx_text.specs.Lexemes.{same_name, among}
use Rattle.cx_plan.specs.Lists.{first_again_behind, first_again}
use Rattle.cx_bind.specs.declared.thorns.Thorn.{Thorn}
use Rattle.cx_bind.specs.declared.thorns.Param.{Param}
use Rattle.cx_bind.specs.declared.thorns.BindFault.TheVariants.{TwoParameters}
use Rattle.cx_bind.specs.BuiltIn.{table, starred}
use Rattle.cx_bind.specs.Variables.{variable_infos}
use Rattle.cx_bind.specs.Parameters.{is_global, declared_by, known_by, known, extended, extensions, parameters}
use Rattle.cx_bind.specs.Faults.{clash, two_parameters, no_parameter, wrong_type, two_variables}
use Rattle.cx_bind.specs.Binding.{needs_fault, names_fault, bind_fault}
use Rattle.cx_job_values.proofs.NoneLaws.{some_none, first_none, second_none}
use Rattle.law_restarts.proofs.ListLaws.{Each, none_told, each_both, each_mapped, each_unmapped, none_of, first_false, both_false}

-- ---- elements that are the same as none before them

module _ {X : Type 0} (same : X → X → Bool) where
  fresh : (before xs ys : List X) → first_again_behind same before (xs ++ ys) ≡ None
      → first_again_behind same (before ++ xs) ys ≡ None
  fresh before [] ys none =
      subst (λ zs. first_again_behind same zs ys ≡ None) (sym (append-nil before)) none
  fresh before (x ∷ xs) ys none =
      subst (λ zs. first_again_behind same zs ys ≡ None) (append_assoc before (x ∷ []) xs)
      (by (list_any (same x) before) none (fresh (before ++ x ∷ []) xs ys))
    where
      by : (b : Bool) → (if b then Some x
          else first_again_behind same (before ++ x ∷ []) (xs ++ ys)) ≡ None
          → (first_again_behind same (before ++ x ∷ []) (xs ++ ys) ≡ None
          → first_again_behind same ((before ++ x ∷ []) ++ xs) ys ≡ None)
          → first_again_behind same ((before ++ x ∷ []) ++ xs) ys ≡ None
      by true none later = some_none none
      by false none later = later none

  each_fresh : (before more ys : List X) → first_again_behind same (before ++ more) ys ≡ None
      → Each (λ y. list_any (same y) before ≡ false) ys
  each_fresh before more [] none = tt
  each_fresh before more (y ∷ ys) none =
      by (list_any (same y) (before ++ more)) refl none (each_fresh before (more ++ y ∷ []) ys)
    where
      by : (b : Bool) → list_any (same y) (before ++ more) ≡ b
          → (if b then Some y else first_again_behind same ((before ++ more) ++ y ∷ []) ys) ≡ None
          → (first_again_behind same (before ++ (more ++ y ∷ [])) ys ≡ None
          → Each (λ y. list_any (same y) before ≡ false) ys)
          → Each (λ y. list_any (same y) before ≡ false) (y ∷ ys)
      by true e none later = some_none none
      by false e none later = (
        first_false (list_any (same y) before) (list_any (same y) more)
            (sym (list_any-append (same y) before more) ∙ e),
        later (subst (λ zs. first_again_behind same zs ys ≡ None)
            (append_assoc before more (y ∷ [])) none),
      )

-- ---- parameters

-- a built-in parameter, or one that isn't starred
abbrev pub Fine : ℕ → Param → Type 0
Fine n p = ((p.thorn ≡ n) × (is_global p.decl.scope ≡ false)) ⊎ (among starred p.full ≡ false)

own_fine : (n : ℕ) (ps : List Param) → map (λ (p : Param). p.thorn) ps ≡ map (λ p. n) ps
    → map (λ (p : Param). is_global p.decl.scope) ps ≡ map (λ p. false) ps → Each (Fine n) ps
own_fine n [] owners plain = tt
own_fine n (p ∷ ps) owners plain =
    let owner : p.thorn ≡ n = cc in
    let local : is_global p.decl.scope ≡ false = cc in
    let others : map (λ (q : Param). q.thorn) ps ≡ map (λ q. n) ps = cc in
    let rest : map (λ (q : Param). is_global q.decl.scope) ps ≡ map (λ q. false) ps = cc in
    (inl (owner, local), own_fine n ps others rest)

table_fine : (n : ℕ) → Each (Fine n) (table n)
table_fine n = own_fine n (table n) refl refl

either : (full name : List ℕ) (b : Bool) → same_name full name ≡ false → b ≡ false
    → (same_name full name || b) ≡ false
either full name b e h = both_false (same_name full name) b e h

module _ (n : ℕ) (p : Param) (none : list_any (clash (known_by p)) (map known_by (table n)) ≡ false)
  where
    is_other : (j : ℕ) → j < 37
        → same_name p.full (get_or (map known_by (table n)) j (known_by p)).full ≡ false
    is_other j within =
        first_false (same_name p.full (get_or (map known_by (table n)) j (known_by p)).full) _
        (none_of (clash (known_by p)) (map known_by (table n)) j (known_by p) none within)

    not_starred : among starred p.full ≡ false
    not_starred =
        (either p.full (codes "driver::parts_x") _ (is_other 15 (omega arith))
        (either p.full (codes "driver::parts_y") _ (is_other 16 (omega arith))
        (either p.full (codes "driver::parts_z") _ (is_other 17 (omega arith))
        (either p.full (codes "driver::widths_x") _ (is_other 18 (omega arith))
        (either p.full (codes "driver::widths_y") _ (is_other 19 (omega arith))
        (either p.full (codes "driver::widths_z") _ (is_other 20 (omega arith))
        (either p.full (codes "driver::lead") _ (is_other 21 (omega arith))
        (either p.full (codes "driver::balance") _ (is_other 34 (omega arith))
        (either p.full (codes "driver::weight") _ (is_other 35 (omega arith))
        (either p.full (codes "driver::weight_factor") _ (is_other 36 (omega arith))
        (either p.full (codes "IO::out_dir") _ (is_other 23 (omega arith))
        (either p.full (codes "IO::checkpoint_dir") _ (is_other 29 (omega arith))
        (either p.full (codes "IO::recover_dir") _ (is_other 30 (omega arith))
        (either p.full (codes "IO::recover") _ (is_other 31 (omega arith))
        (either p.full (codes "IO::steer_file") _ (is_other 33 (omega arith)) refl)))))))))))))))

module _ (thorns : List Thorn) (none : bind_fault thorns ≡ None) where
  names_fit : names_fault (known thorns) (variable_infos thorns) thorns ≡ None
  unfolding bind_fault
  names_fit = first_none (names_fault (known thorns) (variable_infos thorns) thorns) _
      (second_none (needs_fault thorns) _ none)

  pub each_use_known : no_parameter (known thorns) thorns ≡ None
  each_use_known = first_none (no_parameter (known thorns) thorns) _ names_fit

  one_of_a_name : two_parameters (known thorns) ≡ None
  one_of_a_name =
      first_none (two_parameters (known thorns)) None
      (second_none (two_variables (variable_infos thorns)) _
      (second_none (wrong_type (known thorns) thorns) _
      (second_none (no_parameter (known thorns) thorns) _ names_fit)))

  abbrev of_thorns : List Param
  of_thorns = flat_map declared_by (enumerate_from 0 thorns)

  none_again : first_again clash (known thorns) ≡ None
  none_again = none_told (λ k. TwoParameters k.full) (first_again clash (known thorns))
      one_of_a_name

  each_apart : Each (λ k. list_any (clash k) (map known_by (table (length thorns))) ≡ false)
      (map known_by of_thorns)
  each_apart =
      let parted : first_again_behind clash []
      (map known_by (table (length thorns)) ++ map known_by of_thorns) ≡ None =
      subst (λ ks. first_again_behind clash [] ks ≡ None)
      (map-append known_by (table (length thorns)) of_thorns) none_again in
      each_fresh clash (map known_by (table (length thorns))) [] (map known_by of_thorns)
      (subst (λ ks. first_again_behind clash ks (map known_by of_thorns) ≡ None)
      (sym (append-nil (map known_by (table (length thorns)))))
      (fresh clash [] (map known_by (table (length thorns))) (map known_by of_thorns) parted))

  -- each is built in, or isn't starred
  pub each_fine : Each (Fine (length thorns)) (parameters thorns)
  each_fine =
      each_both (Fine (length thorns)) (table (length thorns))
      (map (extended (extensions thorns)) of_thorns) (table_fine (length thorns))
      (each_mapped (λ (p : Param). among starred p.full ≡ false) (Fine (length thorns))
      (extended (extensions thorns)) (λ p e. inr e) of_thorns
      (each_unmapped (λ (p : Param). among starred p.full ≡ false)
      (λ k. list_any (clash k) (map known_by (table (length thorns))) ≡ false) known_by
      (λ p e. not_starred (length thorns) p e) of_thorns each_apart))
