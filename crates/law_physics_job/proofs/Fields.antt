-- Variables of a job, by the list of all of them.
use Rattle.std.proofs.Common.{◌≡◌, sym, ap, subst, ◌∙◌, ℕ, ◌<◌, true, false, List, length}
use Rattle.std.specs.Prelude.{slice_index_or}
use Rattle.cx_plan.specs.Lookups.{no_variable, variable}
use Rattle.cx_plan.specs.Setups.{Setup}
use Rattle.cx_plan.specs.declared.variable.VarId.{VarId}
use Rattle.cx_plan.specs.declared.variable.VarInfo.{VarInfo}
use Rattle.law_physics.specs.Constant.{IsFieldOf, IsScalarOf}

module _ (setup : Setup) (vars : List VarInfo) (are : setup.vars ≡ vars) (v : VarId)
    (name : List ℕ) where
  abbrev info : VarInfo
  info = slice_index_or vars v.0 no_variable

  same : variable setup v ≡ info
  same = ap (λ (vs : List VarInfo). slice_index_or vs v.0 no_variable) are

  module _ (there : v.0 < length vars) (stored : 0 < info.levels) (named : info.full ≡ name) where
    var_there : v.0 < length setup.vars
    var_there = subst (λ (vs : List VarInfo). v.0 < length vs) (sym are) there

    var_stored : 0 < (variable setup v).levels
    var_stored = subst (λ (i : VarInfo). 0 < i.levels) (sym same) stored

    var_named : (variable setup v).full ≡ name
    var_named = ap (λ (i : VarInfo). i.full) same ∙ named

    pub is_field_of : info.scalar ≡ false → IsFieldOf setup name v
    is_field_of grid =
        record {
          field =
              record {
                var = var_there;
                stored = var_stored;
                grid = ap (λ (i : VarInfo). i.scalar) same ∙ grid;
              };
          full = var_named;
        }

    pub is_scalar_of : info.scalar ≡ true → IsScalarOf setup name v
    is_scalar_of scalar =
        record {
          var = var_there;
          stored = var_stored;
          scalar = ap (λ (i : VarInfo). i.scalar) same ∙ scalar;
          full = var_named;
        }
