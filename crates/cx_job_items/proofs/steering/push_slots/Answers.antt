use Rattle.std.proofs.Common.{map}
use Rattle.cx_values.proofs.Along.{flat_step}
use Rattle.cx_job_items.specs.Steered.{steer_of}
use Rattle.cx_job_items.proofs.steering.push_slots.Goals as goal

pub names-preserved : goal.names-preserved
names-preserved c =
    flat_step c.args.names.now c.names.slot c.index-names-slot.result c.names-test.true
    c.index-names-slot.is
    (steer_of c.args.change.now.at c.args.full.now c.args.change.now.value c.args.k)
    c.args.steers.now c.names.invariant c.in_ok-push_slot.ensures
