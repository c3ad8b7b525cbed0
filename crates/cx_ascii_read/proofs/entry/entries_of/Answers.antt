use Rattle.std.proofs.lemmas.Result.{err_from_is_err_and}
use Rattle.cx_ascii_read.proofs.EntryLaws.{one_more, gets_shorter, fails, some_left}
use Rattle.cx_ascii_read.proofs.entry.entries_of.Goals as goal

pub returns-in_err-entry : goal.returns-in_err-entry
returns-in_err-entry g c =
    let p = err_from_is_err_and c.from_residual.result c.from_residual.ensures.1 in
    rw (p.1, p.2) (fails g.E.Entry.text g.E.Entry.entry_at g.E.Entry.fits c.requires.field
    c.requires.some c.args.bytes.now c.each.entries c.each.rest.now c.in_err-entry.field-0.0
    c.each.invariant (some_left c.each.rest.now c.is_empty.result c.is_empty.ensures
    c.each-test.true) c.in_err-entry.ensures)

pub each-smaller : goal.each-smaller
each-smaller g c = gets_shorter g.E.Entry.text g.E.Entry.entry_at g.E.Entry.fits c.requires.field
    c.requires.some c.each.rest.now c.in_ok-entry.entry c.in_ok-entry.after.now
    c.in_ok-entry.ensures

pub each-preserved : goal.each-preserved
each-preserved g c = rw c.in_ok-push.ensures.ok
    (one_more g.E.Entry.text g.E.Entry.entry_at g.E.Entry.fits c.requires.field c.requires.some
    c.args.bytes.now c.each.entries c.each.rest.now c.in_ok-entry.entry c.in_ok-entry.after.now
    c.each.invariant c.in_ok-entry.ensures)
