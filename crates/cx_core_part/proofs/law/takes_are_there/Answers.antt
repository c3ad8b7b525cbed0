use Rattle.std.proofs.Common.{IsTrue}
use Rattle.cx_core_part.proofs.ReadyLaws.{job_takes}
use Rattle.cx_core_part.proofs.law.takes_are_there.Goals as goal

pub returns : goal.returns
returns c = λ told rules b begins.
    job_takes c.args.job.now c.requires.whole c.requires.shapes c.requires.interior c.requires.cut
    c.flat_is_run.ensures c.all_ways.ensures c.operation_needs_met.ensures rules b begins
    (IsTrue told)
