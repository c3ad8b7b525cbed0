use Rattle.std.proofs.Common.{map}
use Rattle.cx_values.proofs.Along.{flat_step}
use Rattle.cx_job_items.specs.Steered.{steers_of_item}
use Rattle.cx_job_items.proofs.steering.push_items.Goals as goal

pub items-preserved : goal.items-preserved
items-preserved c =
    flat_step c.args.items.now c.items.k c.index-items-k.result c.items-test.true c.index-items-k.is
    (steers_of_item (map (λ s. s.now) c.args.specs.now)
    c.args.change.now.at c.args.full.now c.args.change.now.value)
    c.args.steers.now c.items.invariant c.in_ok-push_item.ensures
