use Rattle.std.proofs.Common.{sym, subst}
use Rattle.cx_plan.specs.Setups.{Setup}
use Rattle.cx_flat.specs.Ways.{WaysEnd}
use Rattle.cx_core_place.specs.Steps.{PlacesFit}
use Rattle.law_parts.specs.Beginnings.{run_of}
use Rattle.law_parts.proofs.FitLaws.{some_part}
use Rattle.law_parts.proofs.WholeRun.{names, true_states}
use Rattle.cx_flat.specs.declared.op.Op.TheVariants.{Piece}
use Rattle.law_reached.proofs.JobRuns.{run_is}
use Rattle.cx_core.proofs.LengthLaws.{Rise}
use Rattle.cx_core.proofs.StartLaws.{setup_same}
use Rattle.cx_core.proofs.OutLaws.{outputs_among}
use Rattle.cx_core.proofs.laws.run_laws.Goals as goal

pub returns : goal.returns
returns c = λ told rules b begins.
    let ready = c.requires in
    let r = run_of c.args.job.now rules b in
    let run = run_is c.args.job.now ready.whole ready.shapes ready.interior ready.cut
    c.flat_is_run.ensures c.all_ways.ensures c.operation_needs_met.ensures rules b begins in
    record {
      cut = run.cut;
      some_part = some_part r run;
      ways = subst WaysEnd (sym (setup_same c.args.job.now rules b)) c.all_ways.ensures;
      places = subst PlacesFit (sym (setup_same c.args.job.now rules b)) c.places_fit.ensures;
      states = true_states r run;
      outputs = λ pc v e. ((names r run (Piece v) pc e).0, outputs_among r.setup pc v e);
      outputs_rise = subst (λ (s : Setup). Rise s.out_vars)
          (sym (setup_same c.args.job.now rules b))
          ready.whole.outputs_rise;
      steps = c.each_event_keeps.ensures told rules b begins;
      pace = c.pace_tells.ensures told rules b begins;
      goes_on = c.each_state_goes_on.ensures told rules b begins;
      way_kept = c.each_event_keeps_way.ensures told rules b begins;
      way = c.one_way.ensures told rules b begins;
      works = c.works_in_order.ensures told rules b begins;
      book_is = c.book_is_lengths.ensures told rules b begins;
      ends = c.end_is_the_runs.ensures told rules b begins;
      done = c.done_matches.ensures told rules b begins;
      taken = c.taken_adds_up.ensures told rules b begins;
    }
