use Rattle.cx_bind.proofs.RangeLaws.{one_added}
use Rattle.cx_bind.proofs.extensions.ranges_by_names.Goals as goal

pub extensions-preserved : goal.extensions-preserved
extensions-preserved c =
    one_added c.args.extensions.now c.extensions.extension-index c.extension-item.result
    c.extensions.ranges c.add_extension.new.ranges c.extensions-test.true c.extension-item.is
    c.extensions.invariant c.in_ok-add_extension.ensures
