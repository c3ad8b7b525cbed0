use Rattle.std.proofs.lemmas.Result.{err_from_is_err_and}
use Rattle.cx_job_files.specs.Reading.{SaysSettings}
use Rattle.cx_job_files.specs.Configuring.{ListAnd}
use Rattle.cx_job_files.proofs.ReadingLaws as laws
use Rattle.cx_job_files.proofs.configuring.configure.Goals as goal

pub returns-in_err-settings-clause-follows : goal.returns-in_err-settings-clause-follows
returns-in_err-settings-clause-follows g c =
    let p = err_from_is_err_and c.from_residual.result c.from_residual.ensures.1 in
    rw (p.1, p.2) (laws.halted_from g.H.Shelf (SaysSettings c.args.name.now) (λ h s. ListAnd s h)
    c.args.shelf.now c.settings_file.new.shelf
    c.in_err-settings.field-0.0 c.in_err-settings.ensures)

pub returns-clause-follows : goal.returns-clause-follows
returns-clause-follows g c =
    laws.passed_from g.H.Shelf (SaysSettings c.args.name.now) (λ h s. ListAnd s h)
    c.args.shelf.now c.settings_file.new.shelf c.list_and.new.shelf
    c.in_ok-settings.settings c.list_and.result c.in_ok-settings.ensures c.list_and.ensures.follows
