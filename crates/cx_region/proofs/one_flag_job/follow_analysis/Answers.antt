use Rattle.std.proofs.lemmas.Result.{err_from_is_err_and}
use Rattle.cx_region.proofs.OneFlagJobLaws.{goes-analysis, stop-analysis}
use Rattle.cx_region.proofs.one_flag_job.follow_analysis.Goals as goal

pub returns-in_err-behind-clause-goes : goal.returns-in_err-behind-clause-goes
returns-in_err-behind-clause-goes c =
    let p = err_from_is_err_and c.from_residual.result c.from_residual.ensures.1 in
    rw (p.1, p.2) (stop-analysis c.args.job.now c.args.ways.items c.in_err-behind.field-0.0
    c.in_err-behind.ensures.goes)

pub returns-clause-goes : goal.returns-clause-goes
returns-clause-goes c =
    goes-analysis c.args.job.now c.args.followed c.args.ways.items c.in_ok-behind.behind.items
    c.output_if_any.result c.in_ok-behind.ensures.goes
    (c.output_if_any.ensures.goes c.args.followed)
