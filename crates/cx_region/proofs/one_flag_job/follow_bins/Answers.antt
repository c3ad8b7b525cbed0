use Rattle.std.proofs.lemmas.Result.{err_from_is_err_and}
use Rattle.cx_plan.specs.Bins.{bin_number}
use Rattle.cx_region.proofs.OneFlagJobLaws.{passed-bin, stop-bin, passed-all_bins}
use Rattle.cx_region.proofs.one_flag_job.follow_bins.Goals as goal

pub bins-preserved : goal.bins-preserved
bins-preserved c =
    record {
      some = c.in_ok-now.ensures.some;
      passed = passed-bin bin_number c.args.job.now c.args.followed c.args.bins.now c.bins.bin-index
          _ c.args.ways.items c.bins.now.items c.in_ok-now.now.items c.bins-test.true
          c.in_ok-now.ensures.goes c.bins.invariant.passed;
    }

pub returns-in_err-now-clause-goes : goal.returns-in_err-now-clause-goes
returns-in_err-now-clause-goes c =
    let p = err_from_is_err_and c.from_residual.result c.from_residual.ensures.1 in
    rw (p.1, p.2)
    (stop-bin bin_number c.args.job.now c.args.followed c.args.bins.now c.bins.bin-index _
    c.args.ways.items c.bins.now.items c.in_err-now.field-0.0 c.bins-test.true
    c.in_err-now.ensures.goes c.bins.invariant.passed)

pub returns-clause-goes : goal.returns-clause-goes
returns-clause-goes c = passed-all_bins bin_number c.args.job.now c.args.followed c.args.bins.now
    c.bins.bin-index c.args.ways.items c.bins.now c.bins-test.false c.bins.invariant.passed
