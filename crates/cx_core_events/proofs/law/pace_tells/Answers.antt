use Rattle.std.specs.Prelude.{IsTrue}
use Rattle.cx_core_events.proofs.TellLaws.{job_tells}
use Rattle.cx_core_events.proofs.law.pace_tells.Goals as goal

pub returns : goal.returns
returns c = λ told rules b begins.
    job_tells c.args.job.now c.requires.whole c.requires.shapes c.requires.interior c.requires.cut
    c.flat_is_run.ensures c.all_ways.ensures c.operation_needs_met.ensures c.places_fit.ensures
    (IsTrue told) rules b begins
