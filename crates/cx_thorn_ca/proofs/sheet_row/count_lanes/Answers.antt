use Rattle.cx_thorn_ca.proofs.LaneLaws.{counted}
use Rattle.cx_thorn_ca.proofs.sheet_row.count_lanes.Goals as goal

pub returns : goal.returns
returns c =
    counted c.args.below.now c.args.cells.now c.args.above.now c.args.i _ _ _ _ _ _ _ _ _ _ _ _
    c.living-here.ensures c.living.ensures c.living-2.ensures c.plus-around.ensures
    c.plus-column.ensures c.sixteenfold.ensures
    c.plus.ensures c.next_lane-middle.ensures c.next_lane.ensures c.next_lane-right.ensures
    c.plus-2.ensures c.plus-3.ensures
