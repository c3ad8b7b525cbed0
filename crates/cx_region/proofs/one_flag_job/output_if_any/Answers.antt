use Rattle.std.proofs.Common.{◌≡◌, pos, int_lt, true, false, rules}
use Rattle.cx_region.proofs.OneFlagJobLaws.{goes-output, goes-no_output}
use Rattle.cx_region.proofs.one_flag_job.output_if_any.Goals as goal

pub returns-then-job-gt0-clause-goes : goal.returns-then-job-gt0-clause-goes
returns-then-job-gt0-clause-goes c = λ x.
    let every : int_lt (pos 0) c.args.job.now.out_every ≡ true = search rules in
    goes-output c.args.job.now x c.args.ways.items c.take_all.result
    (int_lt (pos 0) c.args.job.now.out_every) every (c.take_all.ensures.goes x tt)

pub returns-clause-goes : goal.returns-clause-goes
returns-clause-goes c = λ x.
    let never : int_lt (pos 0) c.args.job.now.out_every ≡ false = search rules in
    goes-no_output c.args.job.now x c.args.ways.items (int_lt (pos 0) c.args.job.now.out_every)
    never
