-- What all laws of a run in parts rest on: a whole job that the region check accepts, and its cut.
use Rattle.std.proofs.Common.{ℕ, suc, ◌<◌, ◌≤◌, ◌≡◌, ◌⊎◌, inl, inr, true, List, length, None, refl, sym, ap, subst}
use Rattle.std.proofs.lemmas.Bool.{cases_lt, both_ways}
use Rattle.std.proofs.lemmas.List.{get_or_past}
use Rattle.std.proofs.lemmas.List.Elements.{All-get_or}
use Rattle.cx_grid.specs.Grid.{IsShape, HasInterior}
use Rattle.cx_plan.specs.declared.variable.VarId.{VarId}
use Rattle.cx_plan.specs.declared.variable.VarInfo.{VarInfo}
use Rattle.cx_plan.specs.declared.job.Job.{Job}
use Rattle.cx_plan.specs.Setups.{Setup, setup_of}
use Rattle.cx_plan.specs.Lookups.{is_scalar, levels_of, no_variable}
use Rattle.cx_plan.specs.Regions.{HasShapes}
use Rattle.cx_plan.specs.Whole.{IsWhole}
use Rattle.cx_rule.specs.Routine.{Rule}
use Rattle.cx_model.specs.States.{IsState}
use Rattle.cx_model.specs.Needs.{NotesMet}
use Rattle.cx_model.proofs.StateLaws.{start_is_state}
use Rattle.cx_cut.specs.Cuts.{IsCut}
use Rattle.cx_cut.specs.Neighbours.{Neighbours}
use Rattle.cx_cut.proofs.NeighbourLaws.{neighbours}
use Rattle.cx_flat.specs.declared.op.Op.{Op}
use Rattle.cx_flat.specs.Code.{op_at, code}
use Rattle.cx_flat.specs.Flats.{flat_from, is_halt, begins_pair, ends_pair, InPairs}
use Rattle.cx_flat.specs.Laws.{FlatIsRun}
use Rattle.cx_flat.specs.Ways.{Scalars, WayEnds, WaysEnd}
use Rattle.cx_flat.specs.Places.{OperationsMet}
use Rattle.law_parts.specs.Beginnings.{Beginning, Afresh, From, IsBeginning, run_of}
use Rattle.law_parts.specs.Operations.{NamesWell}
use Rattle.law_parts.specs.Runs.{Run, Oracle, cut_of, parts_in, undivided, op_of, notes_of, flags_at, guided}
use Rattle.law_parts.proofs.CodeLaws.{op_well}
use Rattle.law_parts.proofs.FoldLaws.{folds}
use Rattle.law_parts.proofs.PartLaws.{cut_lies}
use Rattle.law_parts.proofs.StateLaws.{undivided_states, guided_states}
use Rattle.law_parts.proofs.TruthLaws.{Folds}
use Rattle.law_parts.proofs.UndividedPairs.{pairs_first, pairs_next}
use Rattle.law_parts.proofs.WholeReductions.{job_reduces}
use Rattle.law_parts.proofs.ZoneLaws.{Lies}

pub record IsRun (r : Run) : Type 0 where
  pub job : Job
  pub whole : IsWhole job
  pub shapes : HasShapes (setup_of job)
  pub interior : HasInterior r.setup.shape
  pub is : r.setup ≡ setup_of job
  pub cut : IsCut (cut_of r)
  pub first : IsState r.setup r.first.state
  -- by any scalars the way comes to its end
  pub ways : (scalars : Scalars) → WayEnds r.setup r.first.control r.most scalars
  -- the undivided run goes in pairs, and meets its needs
  pub count : ℕ
  pub paired : InPairs r.setup r.rules (code r.setup) None None count r.first
  pub halted : is_halt (op_at (code r.setup)
      (flat_from r.setup r.rules (code r.setup) count r.first).control.pc) ≡ true
  pub met : (n : ℕ) → NotesMet r.setup (flags_at r n) (notes_of r n)

-- the runs of a whole job
pub job_run : (job : Job) (rules : List Rule) (b : Beginning) → IsWhole job
    → HasShapes (setup_of job) → HasInterior job.shape → IsBeginning (setup_of job) b
    → IsCut (cut_of (run_of job rules b)) → FlatIsRun (setup_of job) rules → WaysEnd (setup_of job)
    → OperationsMet (setup_of job) rules → IsRun (run_of job rules b)
job_run job rules Afresh whole shapes interior begins cut flat ways met = record {
  job = job;
  whole = whole;
  shapes = shapes;
  interior = interior;
  is = refl;
  cut = cut;
  first = start_is_state (setup_of job);
  ways = ways.whole;
  count = flat.undivided.count;
  paired = flat.undivided.paired;
  halted = flat.undivided.halts;
  met = met.whole;
}
job_run job rules (From c state so_far) whole shapes interior begins cut flat ways met =
    let runs = flat.continued c state so_far begins.0 in
    record {
      job = job;
      whole = whole;
      shapes = shapes;
      interior = interior;
      is = refl;
      cut = cut;
      first = begins.1;
      ways = ways.continued c begins.0;
      count = runs.count;
      paired = runs.paired;
      halted = runs.halts;
      met = met.from_whole_state c state begins.0;
    }

-- ---- what follows

module _ (r : Run) (run : IsRun r) where
  pub shape : IsShape r.setup.shape
  shape = subst (λ (s : Setup). IsShape s.shape) (sym run.is) run.whole.shape

  pub law : Neighbours (cut_of r)
  law = neighbours (cut_of r) run.cut shape

  pub lies : (k : ℕ) → k < parts_in r → Lies r.setup.shape (cut_of r) k
  lies k l = cut_lies (cut_of r) run.cut shape run.interior k l

  -- each operation names what is there
  pub names_at : (pc : ℕ) → NamesWell r.setup (op_at (code r.setup) pc)
  names_at pc = subst (λ s. NamesWell s (op_at (code s) pc)) (sym run.is)
      (op_well run.job run.whole run.shapes pc)

  pub names : (o : Op) (pc : ℕ) → op_at (code r.setup) pc ≡ o → NamesWell r.setup o
  names o pc e = subst (NamesWell r.setup) e (names_at pc)

  pub first_pair : ends_pair (op_of r 0) ≡ None
  first_pair = pairs_first r run.count run.paired run.halted

  pub next_pairs : (n : ℕ) → ends_pair (op_of r (suc n)) ≡ begins_pair r.setup (op_of r n)
  next_pairs = pairs_next r run.count run.paired run.halted

  pub true_states : (n : ℕ) → IsState r.setup (undivided r n).state
  true_states = undivided_states run.job run.whole run.shapes r run.is run.first

  pub way_states : (oracle : Oracle) (n : ℕ) → IsState r.setup (guided r oracle n).state
  way_states = guided_states run.job run.whole run.shapes r run.is run.first

  pub all_folds : Folds r
  all_folds = folds r run.cut
      (job_reduces run.job run.whole run.shapes r run.is run.count run.paired run.halted
      true_states)

  -- a scalar has at most one level
  one_of : (job : Job) → IsWhole job → (v : VarId) → is_scalar (setup_of job) v ≡ true
      → (v.0 < length job.vars) × (levels_of (setup_of job) v ≤ 1)
  one_of job whole v e = go (cases_lt v.0 (length job.vars))
    where
      go : (v.0 < length job.vars) ⊎ (length job.vars ≤ v.0)
          → (v.0 < length job.vars) × (levels_of (setup_of job) v ≤ 1)
      go (inl l) = (
        l,
        All-get_or (λ (i : VarInfo). i.scalar ≡ true → i.levels ≤ 1)
            job.vars v.0 no_variable l whole.one_level e,
      )
      go (inr l) = let z = get_or_past job.vars v.0 no_variable l in
          absurd (both_ways (is_scalar (setup_of job) v) (ap (λ (i : VarInfo). i.scalar) z) e)

  pub one_level : (v : VarId) → is_scalar r.setup v ≡ true
      → (v.0 < length r.setup.vars) × (levels_of r.setup v ≤ 1)
  one_level v = subst (λ s. is_scalar s v ≡ true → (v.0 < length s.vars) × (levels_of s v ≤ 1))
      (sym run.is) (one_of run.job run.whole v)
