use Rattle.std.proofs.Common.{ap, Ok}
use Rattle.std.proofs.lemmas.Result.{err_from_is_err_and}
use Rattle.cx_job_files.specs.Stages.{Is}
use Rattle.cx_job_files.specs.Reading.{SaysConfiguration, files_of}
use Rattle.cx_job_files.proofs.ReadingLaws as laws
use Rattle.cx_job_files.proofs.reading.conf_and.Goals as goal

pub returns-in_err-conf-clause-follows : goal.returns-in_err-conf-clause-follows
returns-in_err-conf-clause-follows g c =
    let p = err_from_is_err_and c.from_residual.result c.from_residual.ensures.1 in
    rw (p.1, p.2) (laws.halted_from g.H.Shelf (SaysConfiguration c.args.names.now.conf)
    (λ h conf. Is (Ok (files_of c.args.place.now c.args.trees conf)))
    c.args.shelf.now c.configuration_file.new.shelf
    c.in_err-conf.field-0.0 c.in_err-conf.ensures)

pub returns-clause-follows : goal.returns-clause-follows
returns-clause-follows g c =
    let files = files_of c.args.place.now c.args.trees c.in_ok-conf.conf in
    laws.passed_from g.H.Shelf (SaysConfiguration c.args.names.now.conf)
    (λ h conf. Is (Ok (files_of c.args.place.now c.args.trees conf)))
    c.args.shelf.now c.configuration_file.new.shelf c.configuration_file.new.shelf
    c.in_ok-conf.conf (Ok c.in_ok-files_of.field-0) c.in_ok-conf.ensures
    (laws.came_from g.H.Shelf (Is (Ok files)) c.configuration_file.new.shelf
    (Ok c.in_ok-files_of.field-0)
    (laws.done files (Ok c.in_ok-files_of.field-0) (ap (λ t. Ok t) c.in_ok-files_of.ensures)))
