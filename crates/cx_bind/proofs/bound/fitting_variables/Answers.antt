use Rattle.std.proofs.Common.{◌∙◌}
use Rattle.std.proofs.lemmas.Result.{err_from_is_err_and}
use Rattle.cx_bind.proofs.BindLaws.{needs_told, names_told, kinds_told, none_told}
use Rattle.cx_bind.proofs.bound.fitting_variables.Goals as goal

pub returns-in_err-check_needs-clause-told : goal.returns-in_err-check_needs-clause-told
returns-in_err-check_needs-clause-told c =
    let p = err_from_is_err_and c.from_residual.result c.from_residual.ensures.1 in
    rw (p.1, p.2) (needs_told c.args.thorns.now c.in_err-check_needs.field-0.0
    c.in_err-check_needs.ensures)

pub returns-in_err-check_names-clause-told : goal.returns-in_err-check_names-clause-told
returns-in_err-check_names-clause-told c =
    let p = err_from_is_err_and c.from_residual-in_err-check_names.result
    c.from_residual-in_err-check_names.ensures.1 in
    rw (p.1, p.2)
    (names_told c.args.thorns.now c.in_ok-table.table c.as_slice-infos.result.now
    c.in_err-check_names.field-0.0 (c.in_ok-table.ensures ∙ c.in_ok-knowns.ensures)
    (c.as_slice-infos.ensures ∙ c.in_ok-variables.ensures)
    c.in_ok-check_needs.ensures c.in_err-check_names.ensures)

pub returns-in_err-check_kinds-clause-told : goal.returns-in_err-check_kinds-clause-told
returns-in_err-check_kinds-clause-told c =
    let p = err_from_is_err_and c.from_residual-in_err-check_kinds.result
    c.from_residual-in_err-check_kinds.ensures.1 in
    rw (p.1, p.2)
    (kinds_told c.args.thorns.now c.in_ok-table.table c.as_slice-infos.result.now
    c.in_err-check_kinds.field-0.0 (c.in_ok-table.ensures ∙ c.in_ok-knowns.ensures)
    (c.as_slice-infos.ensures ∙ c.in_ok-variables.ensures)
    c.in_ok-check_needs.ensures c.in_ok-check_names.ensures c.in_err-check_kinds.ensures)

pub returns-clause-told : goal.returns-clause-told
returns-clause-told c = none_told c.args.thorns.now c.in_ok-table.table c.as_slice-infos.result.now
    (c.in_ok-table.ensures ∙ c.in_ok-knowns.ensures)
    (c.as_slice-infos.ensures ∙ c.in_ok-variables.ensures)
    c.in_ok-check_needs.ensures c.in_ok-check_names.ensures c.in_ok-check_kinds.ensures
