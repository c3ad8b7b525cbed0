use Rattle.std.proofs.Common.{◌∙◌}
use Rattle.cx_rule.proofs.RowLaws.{row_kept}
use Rattle.cx_rule.proofs.levels.Level.keep_row_outside.Goals as goal

pub returns : goal.returns
returns c =
    let e = c.row_start-start.ensures.value in
    row_kept c.args.b.now c.args.zone.now c.args.level.now c.args.self.now c.put_span.new.self
    c.put_span-2.new.self c.put_span-3.new.self c.args.row c.runs_at-runs.result
    c.places.result c.places-2.result c.places-3.result (rw e at c.row_start-start.ensures.room)
    (rw e at c.runs_at-runs.ensures) c.places.ensures.from c.places.ensures.to
    c.places-2.ensures.from c.places-2.ensures.to c.places-3.ensures.from
    (c.places-3.ensures.to ∙ c.width-end.ensures)
    (rw e at c.put_span.ensures) (rw e at c.put_span-2.ensures) (rw e at c.put_span-3.ensures)
