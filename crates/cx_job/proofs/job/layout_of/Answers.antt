-- Want of memory is no layout.
use Rattle.std.proofs.lemmas.Result.{err_from_is_err_and}
use Rattle.cx_job.proofs.job.layout_of.Goals as goal

pub returns-in_err-stored_infos : goal.returns-in_err-stored_infos
returns-in_err-stored_infos c =
    let p = err_from_is_err_and c.from_residual-in_err-stored_infos.result
    c.from_residual-in_err-stored_infos.ensures.1 in
    rw p.1 tt

pub returns-in_err-weight_of : goal.returns-in_err-weight_of
returns-in_err-weight_of c =
    let p = err_from_is_err_and c.from_residual-in_err-weight_of.result
    c.from_residual-in_err-weight_of.ensures.1 in
    rw p.1 tt
