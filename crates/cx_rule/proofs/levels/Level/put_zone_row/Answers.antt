use Rattle.cx_rule.proofs.RowLaws.{row_set}
use Rattle.cx_rule.proofs.levels.Level.put_zone_row.Goals as goal

pub returns : goal.returns
returns c =
    let e = c.row_start-start.ensures.value in
    row_set c.args.b.now c.args.zone.now c.args.within.now c.args.self.now c.put_span.new.self
    c.put_span-2.new.self c.args.row c.runs_at-runs.result c.requires.room
    (rw e at c.row_start-start.ensures.room) (rw e at c.runs_at-runs.ensures)
    (rw e at c.put_span.ensures) (rw e at c.put_span-2.ensures)
