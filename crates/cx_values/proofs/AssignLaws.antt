-- Values for all parameters, by the names that a table has.
use Rattle.std.proofs.Common.{◌≡◌, sym, ◌∙◌, ap, ℕ, inl, inr, List, Result, Ok, Err, IfOk}
use Rattle.std.proofs.Math.Path.{fun_ext}
use Rattle.cx_parfile.specs.declared.settings.Setting.{Setting}
use Rattle.cx_bind.specs.declared.thorns.Thorn.{Thorn}
use Rattle.cx_bind.specs.declared.thorns.Param.{Param}
use Rattle.cx_bind.specs.Parameters.{parameters}
use Rattle.cx_values.specs.declared.fault.ValueFault.{ValueFault}
use Rattle.cx_values.specs.declared.fault.ValueFault.TheVariants.{Memory}
use Rattle.cx_values.specs.declared.values.Values.{Values}
use Rattle.cx_values.specs.Naming.{Names, names_by, names}
use Rattle.cx_text.specs.Telling.{Tells}
use Rattle.cx_values.specs.Faults.{fault_by, assign_fault}
use Rattle.cx_values.specs.Assigned.{assigned_by, assigned, Assigns}

module _ (thorns : List Thorn) (settings : List Setting) (ts : List Thorn) (ps : List Param)
    (ss : List Setting) (table : Names) (t : ts ≡ thorns) (p : ps ≡ parameters thorns)
    (s : ss ≡ settings) (named : (name : List ℕ) → table name ≡ names_by ts ps name) where
  same_names : table ≡ names thorns
  unfolding names
  same_names = fun_ext named ∙ ap (λ ts. names_by ts ps) t ∙ ap (λ ps. names_by thorns ps) p

  same_fault : fault_by ps table ss ≡ assign_fault thorns settings
  unfolding assign_fault
  same_fault =
      ap (λ ps. fault_by ps table ss) p
      ∙ ap (λ table. fault_by (parameters thorns) table ss) same_names
      ∙ ap (λ ss. fault_by (parameters thorns) (names thorns) ss) s

  same_values : assigned_by ps table ts ss ≡ assigned thorns settings
  unfolding assigned
  same_values =
      ap (λ ps. assigned_by ps table ts ss) p
      ∙ ap (λ table. assigned_by (parameters thorns) table ts ss) same_names
      ∙ ap (λ ts. assigned_by (parameters thorns) (names thorns) ts ss) t
      ∙ ap (λ ss. assigned_by (parameters thorns) (names thorns) thorns ss) s

  pub assigns : (r : Result Values ValueFault) → Tells Memory (fault_by ps table ss) r
      → IfOk r (λ values. values ≡ assigned_by ps table ts ss) → Assigns thorns settings r
  assigns (Ok values) told is = (is ∙ same_values, sym same_fault ∙ told)
  assigns (Err e) (inl memory) is = inl memory
  assigns (Err e) (inr fault) is = inr (sym same_fault ∙ fault)
