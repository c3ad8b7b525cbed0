use Rattle.std.proofs.Common.{rules}
use Rattle.cx_flat.proofs.FlattenLaws.{before_is}
use Rattle.cx_flat.proofs.operations.before_operations.Goals as goal

pub returns : goal.returns
returns c =
    before_is c.args.job.now c.requires c.count_behind.result c.in_ok-checkpoint.checkpoint.items
    c.push_bins.new.ops.items c.append.new.self.items
    c.in_ok-checkpoint.ensures (search rules) (search rules) (search rules)
