-- The grid is one that the key asks for.
use Rattle.std.proofs.Common.{sym, subst}
use Rattle.std.proofs.lemmas.Result.{err_from_is_err_and}
use Rattle.cx_grid.specs.Grid.{IsShape}
use Rattle.cx_job.specs.declared.job.Layout.{Layout}
use Rattle.cx_job_values.proofs.LimitLaws.{has_shape}
use Rattle.cx_job.proofs.job.parts_of.Goals as goal

pub texts_of-requires : goal.texts_of-requires
texts_of-requires c =
    let P : Layout → Type 0 = λ layout. IsShape layout.shape in
    subst P (sym c.in_ok-layout.ensures) (has_shape c.args.bound.now c.args.values.now c.requires)

pub returns-in_err-texts : goal.returns-in_err-texts
returns-in_err-texts c =
    let p = err_from_is_err_and c.from_residual-in_err-texts.result
    c.from_residual-in_err-texts.ensures.1 in
    rw p.1 tt

pub returns-in_err-run_of : goal.returns-in_err-run_of
returns-in_err-run_of c =
    let p = err_from_is_err_and c.from_residual-in_err-run_of.result
    c.from_residual-in_err-run_of.ensures.1 in
    rw p.1 tt
