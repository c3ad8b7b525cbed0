use Rattle.std.proofs.lemmas.Result.{on_ok_weaker}
use Rattle.cx_chunks.proofs.RowPlaces.{row_pushed}
use Rattle.cx_chunks.proofs.rows.push_row.Goals as goal

pub returns : goal.returns
returns c =
    on_ok_weaker c.push_zeros.result
    (λ now. row_pushed c.args.values.now c.args.from c.args.count c.run-there.result.now
    c.args.row.now.items c.extend_from_slice.new.self.items c.push_zeros.new.row.items
    c.run-there.ensures.value c.in_ok-extend_from_slice.ensures.items now)
    c.push_zeros.ensures
