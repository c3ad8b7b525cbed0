use Rattle.std.proofs.lemmas.Result.{err_from_is_err_and}
use Rattle.cx_region.proofs.OneFlagJobLaws.{stop-iterations, iterations-next, iterations-end}
use Rattle.cx_region.proofs.JoinLaws.{joins-some}
use Rattle.cx_region.proofs.LevelLaws.{fewer_after, covered-after}
use Rattle.cx_region.proofs.one_flag_job.follow_iterations.Goals as goal

pub returns-in_err-turned-clause-goes : goal.returns-in_err-turned-clause-goes
returns-in_err-turned-clause-goes c =
    let p = err_from_is_err_and c.from_residual.result c.from_residual.ensures.1 in
    rw (p.1, p.2)
    (stop-iterations c.args.job.now c.args.followed c.args.ways.items c.iterations.head.items
    c.as_slice.result.now c.in_err-turned.field-0.0 c.as_slice.ensures.value
    c.iterations.invariant.head c.in_err-turned.ensures.goes)

pub returns-then-covers-clause-goes : goal.returns-then-covers-clause-goes
returns-then-covers-clause-goes c =
    let x = c.args.followed in
    iterations-end c.args.job.now x c.args.ways.items c.iterations.head.items c.as_slice.result.now
    c.in_ok-turned.turned.items c.requires.whole c.as_slice.ensures.value
    c.iterations.invariant.head c.in_ok-turned.ensures.goes
    (covered-after x c.iterations.head.items c.as_slice-in-iterations.result.now
    c.in_ok-turned.turned.items c.as_slice-in-iterations-2.result.now c.covers.result
    c.as_slice-in-iterations.ensures.value c.as_slice-in-iterations-2.ensures.value
    c.covers.ensures c.if-covers.true)

pub iterations-smaller : goal.iterations-smaller
iterations-smaller c =
    fewer_after c.args.followed c.iterations.head.items c.as_slice-in-iterations.result.now
    c.in_ok-turned.turned.items c.as_slice-in-iterations-2.result.now c.in_ok-head.head.items
    c.covers.result c.as_slice-in-iterations.ensures.value
    c.as_slice-in-iterations-2.ensures.value c.covers.ensures c.if-covers.false
    c.in_ok-head.ensures

pub iterations-preserved : goal.iterations-preserved
iterations-preserved c =
    let x = c.args.followed in
    record {
      some = joins-some x c.iterations.head.items c.in_ok-turned.turned.items
          c.in_ok-head.head.items c.in_ok-head.ensures c.iterations.invariant.some;
      head = iterations-next c.args.job.now x c.args.ways.items c.iterations.head.items
          c.as_slice.result.now c.in_ok-turned.turned.items c.in_ok-head.head.items
          c.as_slice.ensures.value c.iterations.invariant.head c.in_ok-turned.ensures.goes
          c.in_ok-head.ensures;
    }
