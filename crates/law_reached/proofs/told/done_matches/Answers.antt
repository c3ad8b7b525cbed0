use Rattle.std.specs.Prelude.{IsTrue}
use Rattle.law_parts.specs.Beginnings.{run_of}
use Rattle.law_parts.specs.Totals.{undivided_from}
use Rattle.cx_plan.specs.Setups.{setup_of}
use Rattle.law_reached.proofs.JobRuns.{run_is, runs_from}
use Rattle.law_reached.proofs.TotalLaws.{done_matches}
use Rattle.law_reached.proofs.told.done_matches.Goals as goal

pub returns : goal.returns
returns c = λ told rules b begins.
    done_matches (IsTrue told) (run_of c.args.job.now rules b)
    (run_is c.args.job.now c.requires.whole c.requires.shapes c.requires.interior c.requires.cut
    c.flat_is_run.ensures c.all_ways.ensures c.operation_needs_met.ensures rules b begins)
    (undivided_from (setup_of c.args.job.now) rules b)
    (runs_from c.args.job.now c.requires.whole c.requires.shapes c.requires.interior
    c.requires.cut c.flat_is_run.ensures c.all_ways.ensures c.operation_needs_met.ensures rules
    b begins)
