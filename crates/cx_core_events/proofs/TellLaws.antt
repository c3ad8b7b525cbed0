-- The law of where the parts stand, of a run of a whole job.
use Rattle.std.proofs.Common.{◌≡◌, ℕ, ◌<◌, List, refl, sym, ap, ◌∙◌, subst, arith}
use Rattle.std.proofs.lemmas.List.{length-replicate, get_or-replicate}
use Rattle.cx_grid.specs.Grid.{HasInterior}
use Rattle.cx_plan.specs.declared.job.Job.{Job}
use Rattle.cx_plan.specs.Regions.{HasShapes}
use Rattle.cx_plan.specs.Setups.{setup_of}
use Rattle.cx_plan.specs.Whole.{IsWhole}
use Rattle.cx_rule.specs.Routine.{Rule}
use Rattle.cx_cut.specs.Cuts.{IsCut}
use Rattle.cx_cut.specs.Faults.{parts_of}
use Rattle.cx_flat.specs.Laws.{FlatIsRun}
use Rattle.cx_flat.specs.Places.{OperationsMet}
use Rattle.cx_flat.specs.Ways.{WaysEnd}
use Rattle.law_parts.specs.Beginnings.{Beginning, Afresh, From, IsBeginning, run_of}
use Rattle.law_network.specs.Machine.{begun}
use Rattle.law_parts.specs.Laws.{IsReachedState}
use Rattle.law_parts.specs.Nets.{net, within_lead}
use Rattle.law_parts.specs.Runs.{Run, Oracle, parts_in}
use Rattle.law_parts.specs.Truths.{truth}
use Rattle.law_parts.proofs.FitLaws.{some_part}
use Rattle.law_parts.proofs.Ways.{scalars_at, way_is}
use Rattle.law_parts.proofs.WholeRun.{IsRun, job_run}
use Rattle.cx_core_place.specs.Steps.{IsReached, starts, continues, PlacesFit}
use Rattle.cx_core_events.specs.declared.standing.Standing.{Standing}
use Rattle.cx_core_events.specs.Paces.{Paces, no_part, part_of}
use Rattle.cx_core_events.specs.Steps.{standing_at}
use Rattle.cx_core_events.specs.Shows.{State, ShowsPace, TellsEvents, KeepsPace, first_paces, PaceTells}
use Rattle.cx_core_events.proofs.StandLaws.{place_is, op_is}
use Rattle.cx_core_events.proofs.EventLaws.{can_true, true_can, write_true, true_write, end_true, true_end, front_work}
use Rattle.cx_core_events.proofs.AheadLaws.{behind_true, true_behind, some_before}
use Rattle.cx_core_events.proofs.KeepLaws.{met_kept, wrote_kept, full_kept, end_kept}
use Rattle.cx_core_events.proofs.ListedLaws.{are_events}
use Rattle.cx_core_events.proofs.PieceLaws.{pieces_are}
use Rattle.cx_core_events.proofs.OracleLaws.{moved_kept}

module _ (tells : Type 0) (r : Run) (run : IsRun r) (fit : PlacesFit r.setup)
    (first : IsReached r.setup r.first.control) where
  first_part : (k : ℕ) → k < parts_in r → part_of (first_paces r) k ≡ standing_at r.first.control
  first_part k l = get_or-replicate (parts_in r) k (standing_at r.first.control) no_part l

  begins : ShowsPace tells r (truth r) (begun (net tells within_lead r (truth r))) (first_paces r)
  begins = record {
    cut = refl;
    ops = refl;
    lead = refl;
    count = length-replicate (parts_in r) (standing_at r.first.control);
    parts = λ k l. record {
      place = ap (λ (s : Standing). s.place) (first_part k l);
      count = ap (λ (s : Standing). s.count) (first_part k l);
    };
    over = refl;
    stopped = refl;
    hind_part = some_part r run;
    hind_least = λ k l. omega arith;
    foremost = 0;
    foremost_part = some_part r run;
    behind = λ k l. omega arith;
    works = refl;
    handed = λ k l. omega (arith, ap (λ (s : Standing). s.handed) (first_part k l));
  }

  module _ (oracle : Oracle) (w : State tells) (p : Paces) (st : IsReachedState tells r oracle w)
      (sh : ShowsPace tells r oracle w p) where
    events : TellsEvents tells r oracle w p
    events = record {
      events = are_events tells r run oracle w p st sh;
      part = λ k l. (
        can_true tells r run oracle w p st sh k l,
        true_can tells r run oracle w p st sh k,
      );
      write = (
        write_true tells r run oracle w p st sh,
        λ n. true_write tells r run oracle w p st sh n.0 n.1,
      );
      end = (end_true tells r run oracle w p st sh, true_end tells r run oracle w p st sh);
      work = front_work tells r run oracle w p st sh;
      pieces = pieces_are tells r run oracle w p st sh;
      op = op_is tells r run oracle w p st sh;
      reached = λ k l. subst (IsReached r.setup)
          (sym (place_is tells r run oracle w p st sh k l ∙ way_is r oracle (w.place k)))
          (fit.reached (scalars_at r oracle) r.first.control (w.place k) first);
      behind = λ k l. (
        behind_true tells r run oracle w p st sh k l,
        true_behind tells r run oracle w p st sh k l,
      );
      some_before = some_before tells r run oracle w p st sh;
    }

    keeps : KeepsPace tells r oracle w p
    keeps = record {
      moved = λ k y can move. moved_kept tells r run oracle w p st sh k y can move;
      met = met_kept tells r run oracle w p st sh;
      wrote = wrote_kept tells r run oracle w p st sh;
      full = full_kept tells r run oracle w p st sh;
      ended = end_kept tells r run oracle w p st sh;
    }

  pub all_told : PaceTells tells r
  all_told = record { begins = begins; events = events; keeps = keeps }

-- ---- of a whole job

module _ (job : Job) (whole : IsWhole job) (shapes : HasShapes (setup_of job))
    (interior : HasInterior job.shape) (cut : IsCut (parts_of job.shape job.cut))
    (flat : (rules : List Rule) → FlatIsRun (setup_of job) rules) (ways : WaysEnd (setup_of job))
    (met : (rules : List Rule) → OperationsMet (setup_of job) rules)
    (fit : PlacesFit (setup_of job)) (tells : Type 0) (rules : List Rule) where
  pub job_tells : (b : Beginning) → IsBeginning (setup_of job) b
      → PaceTells tells (run_of job rules b)
  job_tells Afresh begins =
      all_told tells (run_of job rules Afresh)
      (job_run job rules Afresh whole shapes interior begins cut (flat rules) ways (met rules))
      fit (starts refl)
  job_tells (From c state so_far) begins =
      all_told tells (run_of job rules (From c state so_far))
      (job_run job rules (From c state so_far) whole shapes interior begins cut (flat rules)
      ways (met rules)) fit (continues c begins.0 refl)
