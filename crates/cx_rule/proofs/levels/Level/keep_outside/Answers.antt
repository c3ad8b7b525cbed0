use Rattle.std.proofs.Common.{◌≡◌, ◌∙◌, ◌*◌, ◌+◌, arith}
use Rattle.cx_grid.specs.Boxes.{extent}
use Rattle.cx_rule.specs.Runs.{row_count}
use Rattle.cx_rule.proofs.RunLaws.{row_next, rows_all}
use Rattle.cx_rule.proofs.RowLaws.{kept_row, kept_all}
use Rattle.cx_rule.proofs.levels.Level.keep_outside.Goals as goal

pub keep_row_outside-requires-clause-room : goal.keep_row_outside-requires-clause-room
keep_row_outside-requires-clause-room c = c.rows.invariant.count ∙ c.requires.room

pub rows-preserved : goal.rows-preserved
rows-preserved c =
    let b = c.args.b.now in
    kept_row b c.args.zone.now c.args.level.now c.args.self.now c.rows.self
    c.keep_row_outside.new.self c.rows.row ((c.rows.row + 1) * extent b 0)
    (row_next c.rows.row (extent b 0)) c.rows.invariant c.keep_row_outside.ensures

pub returns : goal.returns
returns c =
    let b = c.args.b.now in
    let k : c.rows.row ≡ row_count b =
    omega (arith, c.rows-test.false, c.rows.auto.row-end, c.row_count-row-end.ensures) in
    kept_all b c.args.zone.now c.args.level.now c.args.self.now c.rows.self
    (c.rows.row * extent b 0) (rows_all b c.rows.row k) c.requires.room c.rows.invariant
