use Rattle.cx_text.proofs.Loops.{begun, turned, fewer, stopped, ended_at}
use Rattle.cx_iface.proofs.AttributeLaws.{more_sizes_short}
use Rattle.cx_iface.proofs.attributes.sizes_after.Goals as goal

pub sizes-init : goal.sizes-init
sizes-init c = begun

pub sizes-preserved : goal.sizes-preserved
sizes-preserved c = turned more_sizes_short c.sizes.invariant c.at_sign.ensures c.sizes-test.true
    c.in_ok-more_sizes.ensures

pub sizes-smaller : goal.sizes-smaller
sizes-smaller c = fewer more_sizes_short c.in_ok-more_sizes.ensures

pub returns-in_err-more_sizes : goal.returns-in_err-more_sizes
returns-in_err-more_sizes c =
    stopped _ _ _ _ more_sizes_short c.sizes.invariant c.at_sign.ensures c.sizes-test.true
    c.in_err-more_sizes.ensures c.from_residual.ensures.1

pub returns : goal.returns
returns c = ended_at more_sizes_short c.sizes.invariant c.at_sign.ensures c.sizes-test.false
