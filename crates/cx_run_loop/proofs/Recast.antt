-- What is known of a run by one cut of its job, as known of the run of the job itself: settings
-- that
-- differ in the cut alone have one run.
use Rattle.cx_plan.specs.declared.job.Cuts.{Cuts}
use Rattle.cx_rule.specs.States.{State}
use Rattle.cx_cut.specs.Cuts.{Parts}
use Rattle.cx_core.specs.Steps.{Counts}
use Rattle.cx_run_loop.specs.Going.{Setting, Place}
use Rattle.cx_run_loop.specs.Segments.{HasTotalsBy, RunsBy, SegmentTo, Start}
use Rattle.cx_run_loop.proofs.CoreLaws.{recut}

module _ (s : Setting) (cut : Cuts) (again : State → Parts) where
  totals_cast : (a : Start) (now : Counts) → HasTotalsBy (recut s cut) again a now
      → HasTotalsBy s again a now
  totals_cast a now h = record { points = h.points; values = h.values; sum = h.sum }

  totals_back : (a : Start) (now : Counts) → HasTotalsBy s again a now
      → HasTotalsBy (recut s cut) again a now
  totals_back a now h = record { points = h.points; values = h.values; sum = h.sum }

  pub segment_cast : (a b : Start) → SegmentTo (recut s cut) again a b → SegmentTo s again a b
  segment_cast a b seg = record {
    outcome = seg.outcome;
    counts = λ t last goes.
        let over = seg.counts t last goes in
        record {
          totals = λ now h. totals_cast a now (over.totals now (totals_back b now h));
          below = λ now h. over.below now h;
        };
    goes_over = seg.goes_over;
  }

  pub segment_back : (a b : Start) → SegmentTo s again a b → SegmentTo (recut s cut) again a b
  segment_back a b seg = record {
    outcome = seg.outcome;
    counts = λ t last goes.
        let over = seg.counts t last goes in
        record {
          totals = λ now h. totals_back a now (over.totals now (totals_cast b now h));
          below = λ now h. over.below now h;
        };
    goes_over = seg.goes_over;
  }

  abbrev pub place_cast : Place (recut s cut) → Place s
  place_cast p = record { is = p.is; view = p.view }

  pub runs_cast : (a : Start) (p : Place (recut s cut)) → RunsBy (recut s cut) again a p
      → RunsBy s again a (place_cast p)
  runs_cast a p runs = record {
    over = runs.over;
    ended = runs.ended;
    done = λ t is.
        let done = runs.done t is in
        record {
          totals = totals_cast a p.is.now done.totals;
          none_left = done.none_left;
          last = done.last;
        };
    driven = runs.driven;
    settled = runs.settled;
    counts = runs.counts;
    lengths = runs.lengths;
    scalars = runs.scalars;
  }
