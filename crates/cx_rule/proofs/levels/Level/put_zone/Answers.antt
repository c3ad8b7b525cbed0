use Rattle.std.proofs.Common.{◌≡◌, ◌<◌, ◌*◌, ◌+◌, arith}
use Rattle.cx_grid.specs.Boxes.{extent}
use Rattle.cx_rule.specs.Runs.{row_count}
use Rattle.cx_rule.proofs.CommitLaws.{zone_all}
use Rattle.cx_rule.proofs.RunLaws.{row_next, row_room, rows_all}
use Rattle.cx_rule.proofs.RowLaws.{zone_row}
use Rattle.cx_rule.proofs.levels.Level.put_zone.Goals as goal

pub rows-preserved : goal.rows-preserved
rows-preserved c =
    let b = c.args.b.now in
    let below : c.rows.row < row_count b =
    omega (arith, c.rows-test.true, c.row_count-row-end.ensures) in
    let next = row_next c.rows.row (extent b 0) in
    let room = row_room (extent b 0) (extent b 1) (extent b 2) c.rows.row below in
    zone_row b c.args.zone.now c.args.within.now c.args.self.now c.rows.self c.put_zone_row.new.self
    c.rows.row ((c.rows.row + 1) * extent b 0)
    next (omega (arith, next, room)) c.rows.invariant c.put_zone_row.ensures

pub returns : goal.returns
returns c =
    let b = c.args.b.now in
    let k : c.rows.row ≡ row_count b =
    omega (arith, c.rows-test.false, c.rows.auto.row-end, c.row_count-row-end.ensures) in
    zone_all b c.args.zone.now c.args.within.now c.args.self.now c.rows.self
    (c.rows.row * extent b 0) (rows_all b c.rows.row k) c.requires.room c.rows.invariant
