use Rattle.std.proofs.Common.{◌∙◌, ap, inl, refl}
use Rattle.std.specs.List.{concat}
use Rattle.std.proofs.lemmas.Result.{err_from_is_err_and}
use Rattle.cx_run_chunks.proofs.CombineLaws.{recombined_is}
use Rattle.cx_run_chunks.proofs.recombining.whole_output.Goals as goal

pub returns-in_err-records-clause-told : goal.returns-in_err-records-clause-told
returns-in_err-records-clause-told g c = λ tells.
    let p = err_from_is_err_and c.from_residual.result c.from_residual.ensures.1 in
    rw (p.1, p.2) (c.in_err-records.ensures.told tells)

pub returns-in_err-whole-clause-told : goal.returns-in_err-whole-clause-told
returns-in_err-whole-clause-told g c = λ tells.
    let p = err_from_is_err_and c.from_residual-in_err-whole.result
    c.from_residual-in_err-whole.ensures.1 in
    rw (p.1, p.2) (inl refl)

pub returns-clause-value : goal.returns-clause-value
returns-clause-value g c = λ tells.
    recombined_is c.args.job.now (g.D.Disk.view c.args.disk.now).seen
    c.in_ok-records.records c.len.result c.in_ok-whole.whole
    (c.in_ok-records.ensures.records tells)
    (c.in_ok-whole.ensures ∙ ap concat c.into_vec.ensures ∙ c.in_ok-records.ensures.texts tells)
    c.len.ensures

pub returns-clause-text : goal.returns-clause-text
returns-clause-text g c = λ tells.
    c.in_ok-whole.ensures ∙ ap concat c.into_vec.ensures ∙ c.in_ok-records.ensures.texts tells
