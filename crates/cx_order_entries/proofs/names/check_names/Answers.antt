-- An entry whose key is there already has the name of one before it.
use Rattle.std.proofs.lemmas.Result.{err_from_is_err_and}
use Rattle.cx_order_entries.specs.declared.fault.EntryFault.TheVariants.{Memory}
use Rattle.cx_order_entries.proofs.NameLaws.{lent-on, lent-told}
use Rattle.cx_order_entries.proofs.names.check_names.Goals as goal

pub entries-preserved : goal.entries-preserved
entries-preserved c =
    lent-on c.args.entries.now c.entries.entry-index c.entry-item.result c.entries.keys
    c.entries-test.true c.entry-item.is c.entries.invariant c.check_name.new.keys
    c.in_ok-check_name.ensures.told c.in_ok-check_name.ensures.kept

pub returns-in_err-check_name : goal.returns-in_err-check_name
returns-in_err-check_name c =
    let p = err_from_is_err_and c.from_residual.result c.from_residual.ensures.1 in
    rw (p.1, p.2)
    (lent-told c.args.entries.now c.entries.entry-index c.entry-item.result c.entries.keys
    c.entries-test.true c.entry-item.is c.entries.invariant Memory c.in_err-check_name.field-0.0
    c.in_err-check_name.ensures.told)
