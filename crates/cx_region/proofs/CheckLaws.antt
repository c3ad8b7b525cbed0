-- What the checker answers, by its parts.
use Rattle.std.proofs.Common.{◌≡◌, ℕ, ◌+◌, ◌<◌, ◌≤◌, refl, ap, subst, ◌∙◌, List, length, arith, Result, Ok, Err, Option, Some, None, ◌⊎◌, inl, inr}
use Rattle.std.specs.Prelude.{option_map}
use Rattle.std.proofs.lemmas.Bool.{cases_lt}
use Rattle.cx_plan.specs.declared.flag.Flag.{Flag}
use Rattle.cx_plan.specs.declared.flag.Flag.TheVariants.{I, B, G, S}
use Rattle.cx_plan.specs.declared.variable.VarId.{VarId}
use Rattle.cx_plan.specs.declared.job.Job.{Job}
use Rattle.cx_plan.specs.Setups.{Setup, setup_of}
use Rattle.cx_plan.specs.Lookups.{item}
use Rattle.cx_plan.specs.Regions.{HasShapes}
use Rattle.cx_plan.specs.Paths.{Sound, IsUnset}
use Rattle.cx_plan.specs.Whole.{IsWhole}
use Rattle.cx_region.specs.declared.fault.RegionFault.{RegionFault}
use Rattle.cx_region.specs.declared.fault.RegionFault.TheVariants.{Memory}
use Rattle.cx_region_flags.specs.declared.unmet.Unmet.{Unmet}
use Rattle.cx_region.specs.Checks.{unset, IsUnsetFault, Checks, Finds}
use Rattle.cx_region.specs.OneFlag.{IsAlwaysMet}
use Rattle.cx_region.specs.Shapes.{no_shape, first_shapeless, shape_fault}
use Rattle.cx_region_flags.specs.Unmet.{seen}
use Rattle.cx_region.proofs.ActLaws.{flag_at, sound-of-all}
use Rattle.cx_region.proofs.WholeLaws.{shapes_from_none}

pub finds-from : {X : Type 0} (setup : Setup) (P Q : Type 0) (r : Result X RegionFault) → (P → Q)
    → Finds setup P r → Finds setup Q r
finds-from setup P Q (Ok x) into found = into found
finds-from setup P Q (Err fault) into found = found

-- a stop in words
pub unset-told : (setup : Setup) (letters lent_letters : List ℕ) (u lent : Unmet)
    (fault : RegionFault) → lent_letters ≡ letters → lent ≡ u
    → fault ≡ unset setup lent_letters (seen lent) → IsUnset setup letters (seen u)
    → IsUnsetFault setup fault
unset-told setup letters lent_letters u lent fault same same_unmet told first =
    record {
      letters = letters;
      need = seen u;
      first = first;
      told = told ∙ ap (λ (ls : List ℕ). unset setup ls (seen lent)) same
          ∙ ap (λ (v : Unmet). unset setup letters (seen v)) same_unmet;
    }

-- ---- each flag of each variable

abbrev pub Met : Setup → VarId → Flag → Type 0
Met setup v f = IsAlwaysMet setup (record { variable = v; flag = f })

pub each-flag : (setup : Setup) (v : VarId) → Met setup v I → Met setup v B → Met setup v G
    → Met setup v S → (f : Flag) → Met setup v f
each-flag setup v i b g s I = i
each-flag setup v i b g s B = b
each-flag setup v i b g s G = g
each-flag setup v i b g s S = s

pub one-more : (setup : Setup) (n : ℕ)
    → ((v : ℕ) (f : Flag) → v < n → IsAlwaysMet setup (flag_at v f))
    → ((f : Flag) → IsAlwaysMet setup (flag_at n f)) → (v : ℕ) (f : Flag) → v < n + 1
    → IsAlwaysMet setup (flag_at v f)
one-more setup n before here v f below = by (cases_lt v n)
  where
    by : (v < n) ⊎ (n ≤ v) → IsAlwaysMet setup (flag_at v f)
    by (inl lower) = before v f lower
    by (inr past) =
        let same : n ≡ v = omega arith in
        subst (λ k. IsAlwaysMet setup (flag_at k f)) same (here f)

pub sound-at-end : (job : Job) (n : ℕ) → IsWhole job → length job.vars ≤ n
    → ((v : ℕ) (f : Flag) → v < n → IsAlwaysMet (setup_of job) (flag_at v f)) → Sound (setup_of job)
sound-at-end job n is past met = sound-of-all job is (λ v f below. met v f (omega arith))

-- ---- shapes, and then paths

none-mapped : (f : ℕ → RegionFault) (o : Option ℕ) → option_map f o ≡ None → o ≡ None
none-mapped f None e = refl
none-mapped f (Some k) e = absurd (cc)

pub has_shapes : (job : Job) → IsWhole job → shape_fault (setup_of job) ≡ None
    → HasShapes (setup_of job)
has_shapes job is none =
    let setup = setup_of job in
    shapes_from_none job is
    (none-mapped (λ k. no_shape setup (item setup k)) (first_shapeless setup) none)

pub checks-shape : (setup : Setup) (fault : RegionFault)
    → (fault ≡ Memory) ⊎ (shape_fault setup ≡ Some fault) → Checks {X = Unit {0}} setup (Err fault)
checks-shape setup fault (inl memory) = inl memory
checks-shape setup fault (inr told) = inr (inl told)

pub checks-paths : {X : Type 0} (setup : Setup) (r : Result X RegionFault) → HasShapes setup
    → Finds setup (Sound setup) r → Checks setup r
checks-paths setup (Ok x) shapes found = (shapes, found)
checks-paths setup (Err fault) shapes (inl memory) = inl memory
checks-paths setup (Err fault) shapes (inr told) = inr (inr (shapes, told))
