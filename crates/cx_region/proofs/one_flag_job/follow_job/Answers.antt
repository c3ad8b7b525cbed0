use Rattle.std.proofs.lemmas.Result.{err_from_is_err_and}
use Rattle.cx_region.proofs.OneFlagJobLaws.{follows-ok, follows-stop}
use Rattle.cx_region.proofs.one_flag_job.follow_job.Goals as goal

pub returns-in_err-first : goal.returns-in_err-first
returns-in_err-first c =
    let p = err_from_is_err_and c.from_residual.result c.from_residual.ensures.1 in
    rw (p.1, p.2) tt

pub returns-in_err-follow_all : goal.returns-in_err-follow_all
returns-in_err-follow_all c =
    let p = err_from_is_err_and c.from_residual-in_err-follow_all.result
    c.from_residual-in_err-follow_all.ensures.1 in
    rw (p.1, p.2) (follows-stop c.args.job.now c.args.followed c.in_ok-first.first.items
    c.in_err-follow_all.field-0.0 c.in_ok-first.ensures c.in_err-follow_all.ensures)

pub returns : goal.returns
returns c = follows-ok c.args.job.now c.args.followed c.in_ok-first.first.items
    c.in_ok-follow_all.field-0.items c.in_ok-first.ensures c.in_ok-follow_all.ensures
