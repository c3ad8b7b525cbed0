use Rattle.std.proofs.lemmas.Result.{err_from_is_err_and}
use Rattle.cx_region.proofs.OneFlagJobLaws.{goes-start, stop-start}
use Rattle.cx_region.proofs.one_flag_job.follow_start.Goals as goal

pub returns-in_err-behind-clause-goes : goal.returns-in_err-behind-clause-goes
returns-in_err-behind-clause-goes c =
    let p = err_from_is_err_and c.from_residual.result c.from_residual.ensures.1 in
    rw (p.1, p.2) (stop-start c.args.job.now c.args.ways.items c.in_err-behind.field-0.0
    c.in_err-behind.ensures.goes)

pub returns-clause-goes : goal.returns-clause-goes
returns-clause-goes c =
    goes-start c.args.job.now c.args.followed c.args.ways.items c.in_ok-behind.behind.items
    c.follow_analysis.result c.in_ok-behind.ensures.goes c.follow_analysis.ensures.goes
