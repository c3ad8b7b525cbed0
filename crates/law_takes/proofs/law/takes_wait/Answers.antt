use Rattle.std.specs.Prelude.{IsTrue}
use Rattle.law_parts.specs.Beginnings.{run_of}
use Rattle.law_reached.proofs.JobRuns.{run_is}
use Rattle.law_takes.proofs.WaitLaws.{queues_follow, takes_wait_so}
use Rattle.law_takes.proofs.law.takes_wait.Goals as goal

pub returns-clause-waits : goal.returns-clause-waits
returns-clause-waits c = λ told rules b begins.
    takes_wait_so (IsTrue told) (run_of c.args.job.now rules b)
    (run_is c.args.job.now c.requires.whole c.requires.shapes c.requires.interior c.requires.cut
    c.flat_is_run.ensures c.all_ways.ensures c.operation_needs_met.ensures rules b begins)
    (c.takes_are_there.ensures told rules b begins)

pub returns-clause-queues : goal.returns-clause-queues
returns-clause-queues c = λ told rules b begins.
    queues_follow (IsTrue told) (run_of c.args.job.now rules b)
    (run_is c.args.job.now c.requires.whole c.requires.shapes c.requires.interior c.requires.cut
    c.flat_is_run.ensures c.all_ways.ensures c.operation_needs_met.ensures rules b begins)
