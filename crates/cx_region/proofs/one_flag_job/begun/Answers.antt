use Rattle.cx_region.proofs.OneFlagJobLaws.{goes-begun}
use Rattle.cx_region.proofs.one_flag_job.begun.Goals as goal

pub returns-clause-goes : goal.returns-clause-goes
returns-clause-goes c = λ x.
    goes-begun c.args.job.now x c.args.ways.now c.in_ok-inside.inside.items c.take_all.result
    c.in_ok-inside.ensures (c.take_all.ensures.goes x tt)
