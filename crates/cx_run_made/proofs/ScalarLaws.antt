-- What is found by its name is a stored scalar.
use Rattle.std.proofs.Common.{refl, subst}
use Rattle.std.specs.Prelude.{ℕ, ◌≡◌, ◌&&◌, nat_lt, List, Option, Some, None, option_map, position, slice_index_or}
use Rattle.std.specs.Str.{bytes_eq}
use Rattle.std.proofs.lemmas.Bool.{and_parts, ltb-true}
use Rattle.std.proofs.lemmas.List.Quantifiers.{position-Some}
use Rattle.cx_plan.specs.declared.job.Job.{Job}
use Rattle.cx_plan.specs.declared.variable.VarInfo.{VarInfo}
use Rattle.cx_plan.specs.declared.variable.VarId.{VarId}
use Rattle.cx_plan.specs.Lookups.{no_variable}
use Rattle.cx_plan.specs.Setups.{setup_of}
use Rattle.cx_plan.specs.Whole.{IsStoredScalar}
use Rattle.cx_run_made.specs.Summaries.{is_stored_scalar, numbered, scalar_named}

pub stored_there : (job : Job) (name : List ℕ) (k : ℕ)
    → position (is_stored_scalar name) job.vars ≡ Some k → IsStoredScalar job (numbered k)
stored_there job name k found =
    let at = position-Some (is_stored_scalar name) job.vars k no_variable found in
    let v : VarInfo = slice_index_or job.vars k no_variable in
    let all = and_parts (v.scalar && nat_lt 0 v.levels) (bytes_eq v.full name) at.1 in
    let both = and_parts v.scalar (nat_lt 0 v.levels) all.0 in
    ((at.0, ltb-true 0 v.levels both.1), both.0)

pub named_is_stored : (job : Job) (name : List ℕ) (v : VarId)
    → scalar_named (setup_of job) name ≡ Some v → IsStoredScalar job v
named_is_stored job name v named = go (position (is_stored_scalar name) job.vars) refl named
  where
    same : (a b : VarId) → Some a ≡ Some b → a ≡ b
    same a b e = cc

    go : (found : Option ℕ) → position (is_stored_scalar name) job.vars ≡ found
        → option_map numbered found ≡ Some v → IsStoredScalar job v
    go None there e = absurd cc
    go (Some k) there e = subst (λ (x : VarId). IsStoredScalar job x) (same (numbered k) v e)
        (stored_there job name k there)
