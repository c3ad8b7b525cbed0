-- What an operation counts at most, whatever it comes to.
use Rattle.std.proofs.Common.{◌≡◌, ℕ, arith, List, [], ap, sym, ◌∙◌, subst}
use Rattle.cx_plan.specs.declared.job.Job.{Job}
use Rattle.cx_plan.specs.declared.variable.VarId.{VarId}
use Rattle.cx_plan.specs.Setups.{Setup, setup_of}
use Rattle.cx_cut.specs.Cuts.{Parts}
use Rattle.cx_cut.specs.Faults.{parts_of}
use Rattle.cx_field.specs.Patches.{PatchValue}
use Rattle.cx_field.specs.Sweeps.{RoseWithin}
use Rattle.cx_flat.specs.declared.op.Op.{Op}
use Rattle.cx_flat.specs.declared.op.Op.TheVariants.{Sweep, Apply, Take}
use Rattle.law_parts.specs.Nets.{costs, points_of, values_of_op}
use Rattle.law_parts.specs.Runs.{Run, cut_of}
use Rattle.cx_core_part.specs.Exchanges.{ReceivedWithin}
use Rattle.cx_core_part.specs.Frames.{IsPatchOf}
use Rattle.cx_core_part.specs.Jobs.{IsCutOf, IsRunOf}
use Rattle.cx_core.specs.Steps.{Counts, RisesWithin}

-- ---- one of the two counts stays

meter_same : (n a b : ℕ) → b ≡ a → RoseWithin n a b
meter_same n a b e = record {
  least = omega (arith, e);
  most = omega (arith, e);
}

received_same : (n a b : ℕ) → b ≡ a → ReceivedWithin n a b
received_same n a b e = record {
  least = omega (arith, e);
  most = omega (arith, e);
}

-- whatever it costs: neither rises
pub stays : (costs : ℕ → ℕ) (old new : Counts) → new.points ≡ old.points → new.values ≡ old.values
    → RisesWithin costs old new
stays costs old new points values = record {
  points = meter_same (costs 0) old.points new.points points;
  values = received_same (costs 1) old.values new.values values;
}

-- the meter alone rises, or the received number
pub meter_rises : (costs : ℕ → ℕ) (old new : Counts) → RoseWithin (costs 0) old.points new.points
    → new.values ≡ old.values → RisesWithin costs old new
meter_rises costs old new rises values = record {
  points = rises;
  values = received_same (costs 1) old.values new.values values;
}

pub received_rises : (costs : ℕ → ℕ) (old new : Counts) → new.points ≡ old.points
    → ReceivedWithin (costs 1) old.values new.values → RisesWithin costs old new
received_rises costs old new points rises = record {
  points = meter_same (costs 0) old.points new.points points;
  values = rises;
}

-- ---- by the operation

module _ (r : Run) (k : ℕ) (o : Op) (old new : Counts) where
  abbrev Rises : Op → Type 0
  Rises p = RisesWithin (λ i. costs r i k p) old new

  pub sweep_rises : (i : ℕ) → o ≡ Sweep i
      → RoseWithin (points_of r k (Sweep i)) old.points new.points
      → new.values ≡ old.values → Rises o
  sweep_rises i e rises values =
      subst Rises (sym e) (meter_rises (λ j. costs r j k (Sweep i)) old new rises values)

  pub apply_rises : (i : ℕ) → o ≡ Apply i
      → RoseWithin (points_of r k (Apply i)) old.points new.points
      → new.values ≡ old.values → Rises o
  apply_rises i e rises values =
      subst Rises (sym e) (meter_rises (λ j. costs r j k (Apply i)) old new rises values)

  pub take_rises : (d : ℕ) (vars : List VarId) (path : List ℕ) → o ≡ Take d vars path
      → new.points ≡ old.points
      → ReceivedWithin (values_of_op r k (Take d vars [])) old.values new.values → Rises o
  take_rises d vars path e points rises =
      subst Rises (sym e) (received_rises (λ j. costs r j k (Take d vars path))
      old new points rises)

-- ---- by each run of the job

pub run_cut : (job : Job) (r : Run) → IsRunOf job r → (cut : Parts) → IsCutOf job cut
    → cut_of r ≡ cut
run_cut job r of cut is =
    ap (λ (s : Setup). parts_of s.shape r.cuts) of.setup
    ∙ ap (parts_of job.shape) of.cuts ∙ sym is.parts

pub run_patch : (job : Job) (r : Run) → IsRunOf job r → (cut : Parts) → IsCutOf job cut
    → (k : ℕ) (p : PatchValue) → IsPatchOf (setup_of job) cut k p
    → IsPatchOf r.setup (cut_of r) k p
run_patch job r of cut is k p patch =
    subst (λ (s : Setup). IsPatchOf s (cut_of r) k p) (sym of.setup)
    (subst (λ c. IsPatchOf (setup_of job) c k p) (sym (run_cut job r of cut is)) patch)
