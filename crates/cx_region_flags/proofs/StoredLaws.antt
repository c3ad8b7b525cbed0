-- Stored levels have cells, and none is set at first.
use Rattle.std.proofs.Common.{◌≡◌, ℕ, ◌*◌, ◌<◌, ◌≤◌, ap, ◌∙◌, List, length, get_or, replicate, ◌⊎◌, inl, inr, arith}
use Rattle.std.proofs.lemmas.Bool.{cases_lt}
use Rattle.std.proofs.lemmas.List.{get_or-replicate, get_or_past}
use Rattle.std.proofs.Math.ListN.{length-replicate}
use Rattle.std.proofs.lemmas.List.Elements.{All-get_or}
use Rattle.cx_plan.specs.declared.variable.VarId.{VarId}
use Rattle.cx_plan.specs.declared.flag.Flag.{Flag}
use Rattle.cx_plan.specs.declared.job.Job.{Job}
use Rattle.cx_plan.specs.Setups.{setup_of}
use Rattle.cx_plan.specs.Lookups.{levels_of, no_variable}
use Rattle.cx_plan.specs.declared.variable.VarInfo.{VarInfo}
use Rattle.cx_plan.specs.Regions.{cleared}
use Rattle.cx_plan.specs.Whole.{IsWhole, IsStored}
use Rattle.cx_region_flags.specs.declared.flags.LevelFlags.{LevelFlags}
use Rattle.cx_region_flags.specs.Cells.{none_set, flag_of, place, flags_in, IsKept}
use Rattle.cx_region_flags.proofs.TableLaws.{flag-none}

pub stored_kept : (job : Job) (cells : List LevelFlags) (v : VarId) (level : ℕ) → IsWhole job
    → length cells ≡ 8 * length job.vars → IsStored job v level → IsKept cells v level
stored_kept job cells v level is size stored =
    let most : levels_of (setup_of job) v ≤ 8 =
    All-get_or (λ (x : VarInfo). x.levels ≤ 8)
    job.vars v.0 no_variable stored.0 is.levels_limit in
    let few : level < 8 = omega (arith, stored.1, most) in
    let named : v.0 < length job.vars = stored.0 in
    record { few = few; there = omega (arith, few, size, named) }

same_everywhere : (n i : ℕ) (x : LevelFlags) → get_or (replicate n x) i x ≡ x
same_everywhere n i x = by (cases_lt i n)
  where
    by : (i < n) ⊎ (n ≤ i) → get_or (replicate n x) i x ≡ x
    by (inl below) = get_or-replicate n i x x below
    by (inr past) = get_or_past (replicate n x) i x (omega (arith, length-replicate n x))

-- no flag is set at first
pub cleared_at_first : (n : ℕ) (v : VarId) (level : ℕ) (f : Flag)
    → flags_in (replicate n none_set) v level f ≡ cleared v level f
cleared_at_first n v level f =
    ap (λ (x : LevelFlags). flag_of x f) (same_everywhere n (place v level) none_set) ∙ flag-none f
