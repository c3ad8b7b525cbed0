use Rattle.std.proofs.Common.{arith, ◌<◌}
use Rattle.cx_core_part.proofs.StartLaws.{start_part, start_for, start_with}
use Rattle.cx_core_part.proofs.patches.start.Goals as goal

pub new-requires : goal.new-requires
new-requires c =
    start_part c.args.job.now c.args.cut.now c.args.k c.requires.cut c.requires.part c.part.result
    c.local.result c.part.ensures.value c.local.ensures

pub returns-clause-part : goal.returns-clause-part
returns-clause-part c =
    let below : c.farthest.result < 256 = omega arith in
    start_for c.args.job.now c.requires.job c.args.cut.now c.args.k c.part.result c.local.result
    c.part.ensures.value c.local.ensures
    c.farthest.result below (rw c.as_slice.ensures at c.farthest.ensures) c.new.result c.new.ensures

pub returns-clause-numbers : goal.returns-clause-numbers
returns-clause-numbers c = λ rules.
    start_with c.args.job.now rules c.args.cut.now c.args.k c.requires.cut.parts c.part.result
    c.local.result c.part.ensures.value c.local.ensures c.new.result c.new.ensures
