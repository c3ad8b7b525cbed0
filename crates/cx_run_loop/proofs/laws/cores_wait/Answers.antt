use Rattle.std.specs.Prelude.{IsTrue}
use Rattle.law_reached.proofs.JobRuns.{run_is, runs_from}
use Rattle.cx_run_loop.proofs.WaitLaws as laws
use Rattle.cx_run_loop.proofs.laws.cores_wait.Goals as goal

pub returns : goal.returns
returns c = λ told rules b begins.
    let ready = c.requires in
    laws.cores_wait (IsTrue told) c.args.job.now rules b
    (run_is c.args.job.now ready.whole ready.shapes ready.interior ready.cut
    c.flat_is_run.ensures c.all_ways.ensures c.operation_needs_met.ensures rules b begins)
    (runs_from c.args.job.now ready.whole ready.shapes ready.interior ready.cut
    c.flat_is_run.ensures c.all_ways.ensures c.operation_needs_met.ensures rules b begins)
    (c.pace_tells.ensures told rules b begins) (c.cores_gather.ensures told rules b)
    (λ first is at. c.core_stands.ensures told rules b begins first is at)
