use Rattle.std.proofs.Common.{◌≤◌, [], length, sym, rules}
use Rattle.cx_plan.specs.Setups.{setup_of}
use Rattle.cx_plan.specs.Lookups.{bin, called}
use Rattle.cx_region.proofs.CalledLaws.{called-past, marks-none, marks-same}
use Rattle.cx_region.proofs.called.mark_bin.Goals as goal

pub returns-in_default : goal.returns-in_default
returns-in_default c =
    let past : length c.args.job.now.plan.bins ≤ c.args.number = search rules in
    marks-same [] (called (bin (setup_of c.args.job.now) c.args.number))
    c.args.marks.now c.args.marks.now
    (sym (called-past (setup_of c.args.job.now) c.args.number past))
    (marks-none c.args.marks.now)
