use Rattle.std.proofs.lemmas.Result.{err_from_is_err_and}
use Rattle.cx_ascii_read.specs.Reading.{with_front, rows_at}
use Rattle.cx_ascii_read.proofs.LoopLaws.{row_goes_on, row_fails, rows_end}
use Rattle.cx_ascii_read.proofs.values.push_rows.Goals as goal

pub returns-in_err-rest : goal.returns-in_err-rest
returns-in_err-rest c =
    let p = err_from_is_err_and c.from_residual.result c.from_residual.ensures.1 in
    rw (p.1, p.2) (row_fails c.each.values.items c.args.more c.args.count c.each.counter
    c.each.rest.now (with_front c.args.values.now.items
    (rows_at c.args.more c.args.count c.args.bytes.now))
    c.each.invariant c.each-test.true c.in_err-rest.field-0.0 c.in_err-rest.ensures)

pub each-preserved : goal.each-preserved
each-preserved c =
    row_goes_on c.each.values.items c.args.more c.args.count c.each.counter c.each.rest.now
    (with_front c.args.values.now.items (rows_at c.args.more c.args.count c.args.bytes.now))
    c.each.invariant c.each-test.true c.push_row.new.values.items c.in_ok-rest.rest.now
    c.in_ok-rest.ensures

pub returns : goal.returns
returns c =
    rows_end c.each.values.items c.args.more c.args.count c.each.counter c.each.rest.now
    (with_front c.args.values.now.items (rows_at c.args.more c.args.count c.args.bytes.now))
    c.each.invariant c.each-test.false
