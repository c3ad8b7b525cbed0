-- One bin stands before those that are known.
use Rattle.std.proofs.Common.{◌-◌, get_or, ap}
use Rattle.cx_order.proofs.CheckLaws.{begin-sizes, next-sizes, end-sizes}
use Rattle.cx_order.proofs.checks.plan_sizes.Goals as goal

pub loop-at-init : goal.loop-at-init
loop-at-init c = begin-sizes c.args.bins.now c.none-sizes.result c.none-sizes.ensures

pub loop-at-preserved : goal.loop-at-preserved
loop-at-preserved c =
    let read = get_or c.args.bins.now (c.loop-at.at - 1) in
    next-sizes c.args.bins.now c.loop-at.at (read c.index-bins-at.result)
    c.around.result c.loop-at.sizes c.before-sizes.result c.loop-at-test.true c.loop-at.auto.at
    (ap read c.index-bins-at.is)
    c.around.ensures.sequence c.before-sizes.ensures c.loop-at.invariant

pub returns : goal.returns
returns c = end-sizes c.args.bins.now c.loop-at.at c.loop-at.sizes c.loop-at-test.false
    c.loop-at.invariant
