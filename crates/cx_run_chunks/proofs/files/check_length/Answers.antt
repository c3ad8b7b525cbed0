use Rattle.std.proofs.Common.{◌∙◌, ap, sym}
use Rattle.std.proofs.lemmas.Result.{err_from_is_err_and}
use Rattle.cx_run_chunks.specs.Commands.{long_fault}
use Rattle.cx_run_chunks.proofs.LoopLaws.{disk_fault, same_fault}
use Rattle.cx_run_chunks.proofs.files.check_length.Goals as goal

pub returns-in_err-total-clause-told : goal.returns-in_err-total-clause-told
returns-in_err-total-clause-told g c = λ tells.
    let p = err_from_is_err_and c.from_residual.result c.from_residual.ensures.1 in
    rw (p.1, p.2) (disk_fault _ c.in_err-total.field-0.0)

pub returns-in_err-check_total-clause-told : goal.returns-in_err-check_total-clause-told
returns-in_err-check_total-clause-told g c = λ tells.
    let p = err_from_is_err_and c.from_residual-in_err-check_total.result
    c.from_residual-in_err-check_total.ensures.1 in
    rw (p.1, p.2) (same_fault _ _ c.in_err-check_total.field-0.0
    (ap long_fault (c.in_ok-total.ensures.total tells)) c.in_err-check_total.ensures)

pub returns-clause-told : goal.returns-clause-told
returns-clause-told g c = λ tells.
    sym (ap long_fault (c.in_ok-total.ensures.total tells)) ∙ c.in_ok-check_total.ensures
