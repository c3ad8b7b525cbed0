use Rattle.std.proofs.Common.{◌∙◌, arith}
use Rattle.cx_keep.proofs.Begins.{cut_crash, cut_leaving, cut_earlier, cut_left, cut_own}
use Rattle.cx_keep.proofs.resume.cut_outputs.Goals as goal

pub returns-in_err-cut_output-clause-crash : goal.returns-in_err-cut_output-clause-crash
returns-in_err-cut_output-clause-crash g c = λ tells.
    cut_crash c.args.lengths.now c.each.output (g.D.Disk.view c.args.disk.now)
    (g.D.Disk.view c.each.disk) (g.D.Disk.view c.cut_output.new.disk) c.each-test.true
    (c.each.invariant.crash tells) (c.cut_output.ensures.after tells)

pub returns-in_err-cut_output-clause-moments : goal.returns-in_err-cut_output-clause-moments
returns-in_err-cut_output-clause-moments g c = λ tells.
    cut_leaving c.args.lengths.now c.each.output (g.D.Disk.view c.args.disk.now)
    (g.D.Disk.view c.each.disk) (g.D.Disk.view c.cut_output.new.disk) c.each-test.true
    (c.each.invariant.crash tells) (c.cut_output.ensures.after tells)
    (c.each.invariant.moments tells)

pub each-preserved : goal.each-preserved
each-preserved g c =
    let first = g.D.Disk.view c.args.disk.now in
    let old = g.D.Disk.view c.each.disk in
    let new = g.D.Disk.view c.cut_output.new.disk in
    record {
      mounted = c.cut_output.ensures.kept.mounted;
      folders = c.cut_output.ensures.kept.folders ∙ c.each.invariant.folders;
      count = c.cut_output.ensures.kept.count ∙ c.each.invariant.count;
      faults = let a = c.each.invariant.faults in let b = c.cut_output.ensures.kept.cause.later in
          omega arith;
      crash = λ tells. cut_crash c.args.lengths.now c.each.output first old new c.each-test.true
          (c.each.invariant.crash tells) (c.cut_output.ensures.after tells);
      moments = λ tells. cut_leaving c.args.lengths.now c.each.output first old new
          c.each-test.true (c.each.invariant.crash tells) (c.cut_output.ensures.after tells)
          (c.each.invariant.moments tells);
      earlier = λ tells. cut_earlier c.args.lengths.now c.each.output first old new
          c.each-test.true (c.each.invariant.crash tells) (c.cut_output.ensures.after tells)
          (c.each.invariant.earlier tells);
      cut = λ tells. cut_own c.args.lengths.now c.each.output first old new c.each-test.true
          (c.each.invariant.crash tells) (c.cut_output.ensures.after tells)
          (c.each.invariant.cut tells) (c.each.invariant.left tells)
          (c.in_ok-cut_output.ensures.done tells);
      left = λ tells. cut_left c.args.lengths.now c.each.output first old new c.each-test.true
          (c.each.invariant.crash tells) (c.cut_output.ensures.after tells)
          (c.each.invariant.left tells);
    }
