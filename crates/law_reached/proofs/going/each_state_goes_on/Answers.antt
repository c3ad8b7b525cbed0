use Rattle.std.specs.Prelude.{IsTrue}
use Rattle.law_parts.specs.Beginnings.{run_of}
use Rattle.law_reached.proofs.JobRuns.{run_is}
use Rattle.law_reached.proofs.GoingLaws.{states_go_on}
use Rattle.law_reached.proofs.going.each_state_goes_on.Goals as goal

pub returns : goal.returns
returns c = λ told rules b begins.
    states_go_on (IsTrue told) (run_of c.args.job.now rules b)
    (run_is c.args.job.now c.requires.whole c.requires.shapes c.requires.interior c.requires.cut
    c.flat_is_run.ensures c.all_ways.ensures c.operation_needs_met.ensures rules b begins)
