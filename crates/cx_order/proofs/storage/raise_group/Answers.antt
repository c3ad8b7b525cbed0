use Rattle.std.proofs.Math.ListN.{drop_of_length-le}
use Rattle.std.proofs.Common.{◌+◌, drop}
use Rattle.std.proofs.lemmas.List.{drop_more}
use Rattle.cx_order.proofs.StorageLaws.{raised-next, raised-all}
use Rattle.cx_order.proofs.storage.raise_group.Goals as goal

pub group-preserved : goal.group-preserved
group-preserved c =
    raised-next c.args.variables.now c.args.levels c.args.stored.now c.group.stored c.args.group.now
    (drop c.group.variable-index c.args.group.now) c.group.invariant c.raise.new.stored _
    (drop (c.group.variable-index + 1) c.args.group.now)
    (drop_more c.args.group.now c.group.variable-index _ c.group-test.true)
    c.raise.ensures.levels

pub returns-clause-levels : goal.returns-clause-levels
returns-clause-levels c =
    raised-all c.args.variables.now c.args.levels c.args.stored.now c.group.stored c.args.group.now
    (drop c.group.variable-index c.args.group.now) c.group.invariant
    (drop_of_length-le c.args.group.now c.group-test.false)
