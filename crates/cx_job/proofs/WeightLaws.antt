-- What weighs is a variable of the grid, and is stored.
use Rattle.std.proofs.Common.{◌≡◌, refl, sym, ◌∙◌, ap, ℕ, ◌<◌, ◌^◌, Bool, true, false, List, length, Option, Some, None, if◌then◌else◌, arith, ltb-true}
use Rattle.std.specs.Prelude.{IfSome, option_map, slice_index_or}
use Rattle.std.proofs.lemmas.Iterator.Adapters.{position_from-zero}
use Rattle.std.proofs.lemmas.List.Quantifiers.{position-Some}
use Rattle.cx_text.specs.Lexemes.{same_name}
use Rattle.cx_parfile.specs.Values.{is_empty}
use Rattle.cx_plan.specs.Lookups.{no_variable}
use Rattle.cx_plan.specs.declared.variable.VarId.{VarId}
use Rattle.cx_plan.specs.declared.variable.VarInfo.{VarInfo}
use Rattle.cx_bind.specs.declared.thorns.Thorn.{Thorn}
use Rattle.cx_bind.specs.Variables.{variable_infos}
use Rattle.cx_scope.specs.declared.fault.ScopeFault.TheVariants.{NotGrid, NoStorage}
use Rattle.cx_scope.specs.Resolving.{var_id}
use Rattle.cx_values.specs.declared.values.Values.{Values}
use Rattle.cx_job_values.specs.RunNumbers.{weight_name}
use Rattle.cx_job_values.specs.Stored.{stored_infos}
use Rattle.cx_job_values.proofs.NoneLaws.{some_none}
use Rattle.cx_job.specs.Outputs.{is_stored, variable_named}
use Rattle.cx_job.specs.Weights.{grid_fault, weight_fault, weight_of}
use Rattle.cx_job.proofs.StoredLaws.{as_many_stored, stored_at}

-- ---- the number of a name

pub named_within : (vars : List VarInfo) (name : List ℕ) (o : Option ℕ)
    → o ≡ variable_named vars name → IfSome o (λ k. k < length vars)
named_within vars name None is = tt
named_within vars name (Some k) is =
    (position-Some (λ v. same_name name v.full) vars k no_variable
    (position_from-zero (λ v. same_name name v.full) vars ∙ sym is)).0

pub named_below : (vars : List VarInfo) (name : List ℕ) (o : Option ℕ)
    → o ≡ variable_named vars name → length vars < 2 ^ 32 → IfSome o (λ k. k < 2 ^ 32)
named_below vars name None is few = tt
named_below vars name (Some k) is few =
    let within : k < length vars = named_within vars name (Some k) is in
    omega (arith, within, few)

-- ---- by the variables of a job

-- a grid variable of which level 0 is stored
abbrev IsStoredGridIn : List VarInfo → VarId → Type 0
IsStoredGridIn vars v =
    ((v.0 < length vars) × (0 < (slice_index_or vars v.0 no_variable).levels))
    × ((slice_index_or vars v.0 no_variable).scalar ≡ false)

module _ (thorns : List Thorn) (storage : List ℕ) where
  abbrev vars : List VarInfo
  vars = variable_infos thorns

  stored_grid : (name : List ℕ) (k : ℕ) → k < length vars
      → grid_fault vars storage name (Some k) ≡ None
      → IsStoredGridIn (stored_infos thorns storage) (var_id k)
  stored_grid name k within none =
      by (slice_index_or vars k no_variable).scalar refl (is_stored storage k) refl none
    where
      by : (scalar : Bool) → (slice_index_or vars k no_variable).scalar ≡ scalar
          → (stored : Bool) → is_stored storage k ≡ stored
          → (if scalar then Some (NotGrid name)
          else (if stored then None else Some (NoStorage name))) ≡ None
          → IsStoredGridIn (stored_infos thorns storage) (var_id k)
      by true s stored t none = some_none none
      by false s false t none = some_none none
      by false s true t none =
          let many = as_many_stored thorns storage in
          let info = stored_at thorns storage k no_variable within in
          let levels = ap (λ (v : VarInfo). v.levels) info in
          let some = ltb-true 0 (slice_index_or storage k 0) t in (
            (omega (arith, within, many), omega (arith, levels, some)),
            ap (λ (v : VarInfo). v.scalar) info ∙ s,
          )

  module _ (values : Values) where
    abbrev name : List ℕ
    name = weight_name values

    weighs_at : (o : Option ℕ) → o ≡ variable_named vars name
        → grid_fault vars storage name o ≡ None
        → IfSome (option_map var_id o) (IsStoredGridIn (stored_infos thorns storage))
    weighs_at None is none = some_none none
    weighs_at (Some k) is none = stored_grid name k (named_within vars name (Some k) is) none

    pub weighs_stored : weight_fault thorns values storage ≡ None
        → IfSome (weight_of thorns values) (IsStoredGridIn (stored_infos thorns storage))
    weighs_stored none = by (is_empty name) none
      where
        by : (b : Bool)
            → (if b then None else grid_fault vars storage name (variable_named vars name)) ≡ None
            → IfSome (if b then None else option_map var_id (variable_named vars name))
            (IsStoredGridIn (stored_infos thorns storage))
        by true none = tt
        by false none = weighs_at (variable_named vars name) refl none
