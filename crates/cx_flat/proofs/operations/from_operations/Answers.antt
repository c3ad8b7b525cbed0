use Rattle.std.proofs.Common.{rules}
use Rattle.cx_flat.proofs.FlattenLaws.{from_is}
use Rattle.cx_flat.proofs.operations.from_operations.Goals as goal

pub returns : goal.returns
returns c =
    from_is c.args.job.now c.requires c.count_behind.result c.push_pieces.new.ops.items
    c.push_bin.new.ops.items c.append.new.self.items
    (search rules) (search rules) (search rules) (search rules)
