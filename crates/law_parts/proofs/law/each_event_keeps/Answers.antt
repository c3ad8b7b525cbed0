use Rattle.std.specs.Prelude.{IsTrue}
use Rattle.law_parts.proofs.JobLaws.{all_steps}
use Rattle.law_parts.proofs.law.each_event_keeps.Goals as goal

pub returns : goal.returns
returns c = λ told rules b begins.
    all_steps c.args.job.now c.requires.whole c.requires.shapes c.requires.interior c.requires.cut
    c.flat_is_run.ensures c.all_ways.ensures c.operation_needs_met.ensures rules b begins
    (IsTrue told)
