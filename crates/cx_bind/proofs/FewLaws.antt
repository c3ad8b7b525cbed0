-- Thorns that fit each other are few, and so are their variables.
use Rattle.std.proofs.Common.{◌≡◌, refl, sym, ◌∙◌, ap, ℕ, ◌≤◌, Bool, true, false, List, [], ◌∷◌, length, Option, Some, None, arith, if◌then◌else◌}
use Rattle.std.specs.Prelude.{nat_lt, codes}
use Rattle.std.proofs.lemmas.Bool.Decides.{Decides-ltb, not_from_Decides}
use Rattle.cx_plan.specs.Lists.{or_else, first_some}
use Rattle.cx_plan.specs.declared.variable.VarInfo.{VarInfo}
use Rattle.cx_bind.specs.declared.thorns.Thorn.{Thorn}
use Rattle.cx_bind.specs.declared.thorns.BindFault.{BindFault}
use Rattle.cx_bind.specs.declared.thorns.BindFault.TheVariants.{Limit}
use Rattle.cx_bind.specs.Variables.{variable_infos}
use Rattle.cx_bind.specs.Parameters.{known}
use Rattle.cx_bind.specs.Faults.{over, unsupported, two_dims}
use Rattle.cx_bind.specs.Binding.{needs_fault, names_fault, kinds_fault, bind_fault}

first_none : {X : Type 0} (a b : Option X) → or_else a b ≡ None → a ≡ None
first_none None b h = refl
first_none (Some x) b h = cc h

later_none : {X : Type 0} (a b : Option X) → or_else a b ≡ None → b ≡ None
later_none None b h = h
later_none (Some x) b h = cc h

not_over : (what : List ℕ) (n most : ℕ) → over what n most ≡ None → n ≤ most
not_over what n most h = at (nat_lt most n) refl h
  where
    at : (b : Bool) → nat_lt most n ≡ b → over what n most ≡ None → n ≤ most
    at true e h = (let no : Some (Limit what n) ≡ None =
        ap (λ b. if b then Some (Limit what n) else None) (sym e) ∙ h in cc no)
    at false e h = (let not_below = not_from_Decides (nat_lt most n) (Decides-ltb most n) e in
        omega (arith, not_below))

module _ (thorns : List Thorn) (fit : bind_fault thorns ≡ None) where
  abbrev infos : List VarInfo
  infos = variable_infos thorns

  abbrev of_thorns : Option BindFault
  of_thorns = over (codes "thorns") (length thorns) 64

  abbrev of_variables : Option BindFault
  of_variables = over (codes "variables") (length infos) 256

  limits : first_some (of_thorns ∷ of_variables ∷ []) ≡ None
  unfolding bind_fault
  limits =
      let kinds : first_some (kinds_fault infos thorns ∷ []) ≡ None =
      later_none (names_fault (known thorns) infos thorns)
      (first_some (kinds_fault infos thorns ∷ []))
      (later_none (needs_fault thorns)
      (first_some (names_fault (known thorns) infos thorns ∷ kinds_fault infos thorns ∷ []))
      fit) in
      let each : kinds_fault infos thorns ≡ None =
      first_none (kinds_fault infos thorns) None kinds in
      later_none (two_dims thorns) (first_some (of_thorns ∷ of_variables ∷ []))
      (later_none (unsupported thorns)
      (first_some (two_dims thorns ∷ of_thorns ∷ of_variables ∷ [])) each)

  pub few_thorns : length thorns ≤ 64
  few_thorns = not_over (codes "thorns") (length thorns) 64
      (first_none of_thorns (first_some (of_variables ∷ [])) limits)

  pub few_variables : length (variable_infos thorns) ≤ 256
  few_variables = not_over (codes "variables") (length infos) 256
      (first_none of_variables None (later_none of_thorns (first_some (of_variables ∷ [])) limits))
