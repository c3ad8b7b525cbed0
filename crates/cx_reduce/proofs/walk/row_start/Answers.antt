use Rattle.cx_grid.specs.Boxes.{extent}
use Rattle.cx_rule.proofs.RunLaws.{row_room}
use Rattle.cx_reduce.proofs.walk.row_start.Goals as goal

pub returns-clause-room : goal.returns-clause-room
returns-clause-room c = rw c.width.ensures
    (row_room (extent c.args.b.now 0) (extent c.args.b.now 1) (extent c.args.b.now 2)
    c.args.row c.requires.row)
