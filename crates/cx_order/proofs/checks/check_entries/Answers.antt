-- A bin's fault is the first of all where none was told before.
use Rattle.std.proofs.Common.{◌∙◌}
use Rattle.std.proofs.lemmas.Result.{err_from_is_err_and}
use Rattle.cx_order.specs.declared.fault.OrderFault.TheVariants.{Memory}
use Rattle.cx_order.specs.Plans.{entry_fault}
use Rattle.cx_order.proofs.CheckLaws.{first-is, error-told, none-told}
use Rattle.cx_order.proofs.checks.check_entries.Goals as goal

pub returns-in_err-check_bin : goal.returns-in_err-check_bin
returns-in_err-check_bin c =
    λ w forests are.
    let p = err_from_is_err_and c.from_residual.result c.from_residual.ensures.1 in
    rw (p.1, p.2)
    (error-told c.args.bins.now c.loop-bin.bin c.index-bins-bin.result (entry_fault w forests)
    Memory c.in_err-check_bin.field-0.0 (first-is w 0 forests c.args.bins.now are)
    c.loop-bin.invariant c.loop-bin-test.true c.index-bins-bin.is c.in_err-check_bin.ensures)

pub returns : goal.returns
returns c = λ w forests are. first-is w 0 forests c.args.bins.now are
    ∙ none-told c.args.bins.now c.loop-bin.bin c.loop-bin.invariant c.loop-bin-test.false
