use Rattle.std.proofs.Common.{rules}
use Rattle.cx_flat.proofs.FlattenLaws.{code_is}
use Rattle.cx_flat.proofs.operations.flatten.Goals as goal

pub returns : goal.returns
returns c =
    code_is c.args.job.now c.requires c.count_behind.result c.count_of_both-back.result
    c.push_bins.new.ops.items c.in_ok-before.before.items c.in_ok-from.from.items c.new.result
    (search rules) c.in_ok-before.ensures c.in_ok-from.ensures (search rules) (search rules)
    (search rules)
