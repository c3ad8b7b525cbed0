use Rattle.cx_flat.proofs.FlattenLaws.{sync_grown}
use Rattle.cx_flat.proofs.trees.push_sync.Goals as goal

pub directions-preserved : goal.directions-preserved
directions-preserved c =
    sync_grown c.args.variables.now c.args.path.now c.directions.direction c.args.ops.now.items
    c.directions.ops.items c.push_direction.new.ops.items
    c.directions.invariant c.in_ok-push_direction.ensures
