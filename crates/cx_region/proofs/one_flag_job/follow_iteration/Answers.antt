use Rattle.std.proofs.lemmas.Result.{err_from_is_err_and}
use Rattle.cx_region.proofs.OneFlagJobLaws.{goes-iteration, stop-begun, stop-steps, stop-behind_steps}
use Rattle.cx_region.proofs.one_flag_job.follow_iteration.Goals as goal

pub returns-in_err-begun-clause-goes : goal.returns-in_err-begun-clause-goes
returns-in_err-begun-clause-goes c =
    let p = err_from_is_err_and c.from_residual.result c.from_residual.ensures.1 in
    rw (p.1, p.2) (stop-begun c.args.job.now c.args.ways.now c.in_err-begun.field-0.0
    (c.in_err-begun.ensures.goes c.args.followed))

pub returns-in_err-stepped-clause-goes : goal.returns-in_err-stepped-clause-goes
returns-in_err-stepped-clause-goes c =
    let x = c.args.followed in
    let p = err_from_is_err_and c.from_residual-in_err-stepped.result
    c.from_residual-in_err-stepped.ensures.1 in
    rw (p.1, p.2) (stop-steps c.args.job.now x c.args.ways.now c.in_ok-begun.begun.items
    c.in_err-stepped.field-0.0 (c.in_ok-begun.ensures.goes x) c.in_err-stepped.ensures.goes)

pub returns-in_err-behind-clause-goes : goal.returns-in_err-behind-clause-goes
returns-in_err-behind-clause-goes c =
    let x = c.args.followed in
    let p = err_from_is_err_and c.from_residual-in_err-behind.result
    c.from_residual-in_err-behind.ensures.1 in
    rw (p.1, p.2)
    (stop-behind_steps c.args.job.now x c.args.ways.now c.in_ok-begun.begun.items
    c.in_ok-stepped.stepped.items c.in_err-behind.field-0.0 (c.in_ok-begun.ensures.goes x)
    c.in_ok-stepped.ensures.goes c.in_err-behind.ensures.goes)

pub returns-clause-goes : goal.returns-clause-goes
returns-clause-goes c =
    let x = c.args.followed in
    goes-iteration c.args.job.now x c.args.ways.now c.in_ok-begun.begun.items
    c.in_ok-stepped.stepped.items c.in_ok-behind.behind.items c.follow_analysis.result
    (c.in_ok-begun.ensures.goes x)
    c.in_ok-stepped.ensures.goes c.in_ok-behind.ensures.goes c.follow_analysis.ensures.goes
