use Rattle.cx_chunks.proofs.RowPlaces.{row_set}
use Rattle.cx_chunks.proofs.rows.set_row.Goals as goal

pub returns : goal.returns
returns c =
    row_set c.args.values.now c.args.from c.args.row.now c.run-there.result.now
    c.copy_from_slice.new.self c.fill.new.self c.run-there.ensures.value c.run-there.ensures.few
    c.copy_from_slice.ensures.after (c.fill.ensures.after (λ y e. e))
