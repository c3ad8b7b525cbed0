use Rattle.std.proofs.lemmas.Result.{err_from_is_err_and}
use Rattle.cx_region.proofs.OneFlagJobLaws.{goes-job, stop-job-start, stop-job-iterations}
use Rattle.cx_region.proofs.one_flag_job.follow_all.Goals as goal

pub returns-in_err-started : goal.returns-in_err-started
returns-in_err-started c =
    let p = err_from_is_err_and c.from_residual.result c.from_residual.ensures.1 in
    rw (p.1, p.2) (stop-job-start c.args.job.now c.args.ways.items c.in_err-started.field-0.0
    c.in_err-started.ensures.goes)

pub returns-in_err-behind : goal.returns-in_err-behind
returns-in_err-behind c =
    let p = err_from_is_err_and c.from_residual-in_err-behind.result
    c.from_residual-in_err-behind.ensures.1 in
    rw (p.1, p.2)
    (stop-job-iterations c.args.job.now c.args.followed c.args.ways.items
    c.in_ok-started.started.items c.in_err-behind.field-0.0 c.in_ok-started.ensures.goes
    c.in_err-behind.ensures.goes)

pub returns : goal.returns
returns c =
    goes-job c.args.job.now c.args.followed c.args.ways.items c.in_ok-started.started.items
    c.in_ok-behind.behind.items c.follow_bins.result c.in_ok-started.ensures.goes
    c.in_ok-behind.ensures.goes c.follow_bins.ensures.goes
