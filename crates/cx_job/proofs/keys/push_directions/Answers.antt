use Rattle.cx_job.specs.Keys.{direction_line}
use Rattle.cx_job.proofs.LineLaws.{one_number_more}
use Rattle.cx_job.proofs.keys.push_directions.Goals as goal

pub directions-preserved : goal.directions-preserved
directions-preserved c =
    one_number_more (direction_line c.args.shape.now)
    c.args.text.now c.directions.direction c.directions.invariant c.in_ok-push_direction.ensures
