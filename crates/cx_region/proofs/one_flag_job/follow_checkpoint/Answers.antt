use Rattle.std.proofs.lemmas.Result.{err_from_is_err_and}
use Rattle.cx_region.proofs.OneFlagLaws.{join-some}
use Rattle.cx_region.proofs.OneFlagJobLaws.{goes-empty, stop-checkpoint, goes-checkpoint}
use Rattle.cx_region.proofs.one_flag_job.follow_checkpoint.Goals as goal

pub returns-then-is_empty-clause-goes : goal.returns-then-is_empty-clause-goes
returns-then-is_empty-clause-goes c =
    goes-empty c.args.job.now c.args.followed c.args.ways.items c.is_empty.result c.is_empty.ensures
    c.if-is_empty.true

pub returns-in_err-taken-clause-goes : goal.returns-in_err-taken-clause-goes
returns-in_err-taken-clause-goes c =
    let p = err_from_is_err_and c.from_residual.result c.from_residual.ensures.1 in
    rw (p.1, p.2)
    (stop-checkpoint c.args.job.now c.args.ways.items c.as_slice.result.now c.in_err-taken.field-0.0
    c.is_empty.result c.is_empty.ensures c.if-is_empty.false c.as_slice.ensures.value
    c.in_err-taken.ensures.goes)

pub returns-clause-goes : goal.returns-clause-goes
returns-clause-goes c =
    goes-checkpoint c.args.job.now c.args.followed c.args.ways.items c.as_slice.result.now
    c.in_ok-passed.passed.items c.in_ok-taken.taken.items c.in_ok-join.field-0.items
    c.is_empty.result c.requires.whole c.is_empty.ensures c.if-is_empty.false
    c.as_slice.ensures.value c.in_ok-taken.ensures.goes c.in_ok-passed.ensures
    c.in_ok-join.ensures

pub returns-clause-some : goal.returns-clause-some
returns-clause-some c = join-some c.args.followed 110 c.args.ways.items c.in_ok-passed.passed.items
    c.in_ok-taken.taken.items c.in_ok-join.field-0.items c.in_ok-passed.ensures c.in_ok-join.ensures
    c.requires.some
