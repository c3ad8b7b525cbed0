-- The program's routines of the thorns that conserve.
use Rattle.std.proofs.Common.{◌≡◌, refl, sym, ap, subst, ◌∙◌, ℕ, zero, suc, Bool, true, false, List, [], ◌∷◌, Some, slice_get, codes}
use Rattle.std.proofs.lemmas.Bool.{false≢true}
use Rattle.cx_text.specs.Lexemes.{same_name}
use Rattle.cx_rule.specs.Routine.{Rule, rule_at}
use Rattle.cx_rule.specs.declared.spec.Spec.{Spec}
use Rattle.cx_program.specs.Samples.{sample_rules, sample_specs}
use Rattle.law_physics_job.specs.GasRoutines.{IsGasRoutine, HandsInGas}
use Rattle.law_physics_job.specs.GasRoutines as gas
use Rattle.law_physics_job.specs.HeatRoutines.{IsHeatRoutine, HandsInHeat}
use Rattle.law_physics_job.specs.HeatRoutines as heat

-- the second, and the first where the test holds
abbrev With : Bool → Type 0 → Type 0 → Type 0
With true One Others = One × Others
With false One Others = Others

others_of : (One Others : Type 0) (b : Bool) → With b One Others → Others
others_of One Others true both = both.1
others_of One Others false all = all

module _ (thorn : List ℕ) (Is : Rule → Spec → Type 0) where
  abbrev is_its : Spec → Bool
  is_its spec = same_name spec.thorn thorn

  -- of each of two lists that is one of the thorn
  abbrev AllIts : List Rule → List Spec → Type 0
  AllIts rules [] = Unit {0}
  AllIts [] (s ∷ ss) = ⊥
  AllIts (r ∷ rs) (s ∷ ss) = With (is_its s) (Is r s) (AllIts rs ss)

  first_its : (r : Rule) (s : Spec) (Others : Type 0) (b : Bool) → is_its s ≡ b
      → With b (Is r s) Others → is_its s ≡ true → Is r s
  first_its r s Others true is all its = all.0
  first_its r s Others false is all its = absurd (false≢true (sym is ∙ its))

  its_at : (rules : List Rule) (specs : List Spec) → AllIts rules specs → (k : ℕ) (spec : Spec)
      → slice_get specs k ≡ Some spec → is_its spec ≡ true → Is (rule_at rules k) spec
  its_at rules [] all k spec at its = absurd cc
  its_at [] (s ∷ ss) all k spec at its = absurd all
  its_at (r ∷ rs) (s ∷ ss) all zero spec at its =
      let same : s ≡ spec = cc in
      subst (Is r) same
      (first_its r s (AllIts rs ss) (is_its s) refl all (ap is_its same ∙ its))
  its_at (r ∷ rs) (s ∷ ss) all (suc k) spec at its =
      its_at rs ss (others_of (Is r s) (AllIts rs ss) (is_its s) all) k spec at its

pub program_heat : HandsInHeat sample_rules sample_specs
program_heat =
    its_at (codes "HeatFlux") IsHeatRoutine sample_rules sample_specs
    (heat.Init refl refl, (heat.Step refl refl, (heat.Zero refl refl, (heat.Total refl, tt))))

pub program_gas : HandsInGas sample_rules sample_specs
program_gas =
    its_at (codes "LatticeGas") IsGasRoutine sample_rules sample_specs (
      gas.Init refl refl,
      (
        gas.Step refl refl,
        (
          gas.Zero refl refl,
          (
            gas.Measure refl refl,
            (gas.Particles refl, (gas.TotalX refl, (gas.TotalY refl, tt))),
          ),
        ),
      ),
    )
