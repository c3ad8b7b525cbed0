use Rattle.std.proofs.lemmas.Result.{err_from_is_err_and}
use Rattle.cx_ascii_read.proofs.EntryLaws.{some_left}
use Rattle.cx_ascii_read.proofs.SplitLaws.{none_yet, one_split, less_left, split_stops, all_split, none_left}
use Rattle.cx_ascii_read.proofs.splitting.texts_of.Goals as goal

pub returns-in_err-rest : goal.returns-in_err-rest
returns-in_err-rest c =
    let p = err_from_is_err_and c.from_residual-in_err-rest.result
    c.from_residual-in_err-rest.ensures.1 in
    rw (p.1, p.2)
    (split_stops c.args.bytes.now c.args.names.now c.each.texts.items c.each.rest.now
    c.in_err-rest.field-0.0 c.each.invariant
    (some_left c.each.rest.now c.is_empty.result c.is_empty.ensures c.each-test.true)
    c.in_err-rest.ensures)

pub each-init : goal.each-init
each-init c =
    none_yet c.args.bytes.now c.args.names.now c.in_ok-texts.texts.items c.in_ok-texts.ensures

pub each-smaller : goal.each-smaller
each-smaller c =
    less_left c.args.names.now c.each.texts.items c.each.rest.now c.append_next.new.texts.items
    c.in_ok-rest.rest.now c.in_ok-rest.ensures

pub each-preserved : goal.each-preserved
each-preserved c =
    one_split c.args.bytes.now c.args.names.now c.each.texts.items c.each.rest.now
    c.append_next.new.texts.items c.in_ok-rest.rest.now c.each.invariant c.in_ok-rest.ensures

pub returns : goal.returns
returns c =
    all_split c.args.bytes.now c.args.names.now c.each.texts.items c.each.rest.now c.each.invariant
    (none_left c.each.rest.now c.is_empty.result c.is_empty.ensures c.each-test.false)
