use Rattle.std.proofs.lemmas.Result.{err_from_is_err_and}
use Rattle.cx_job_files.specs.Reading.{SaysParams, ScheduleAnd}
use Rattle.cx_job_files.proofs.ReadingLaws as laws
use Rattle.cx_job_files.proofs.reading.params_and.Goals as goal

pub returns-in_err-params-clause-follows : goal.returns-in_err-params-clause-follows
returns-in_err-params-clause-follows g c =
    let p = err_from_is_err_and c.from_residual.result c.from_residual.ensures.1 in
    rw (p.1, p.2) (laws.halted_from g.H.Shelf (SaysParams c.args.names.now.params)
    (λ h ps. ScheduleAnd c.args.place.now c.args.names.now c.args.interface ps h)
    c.args.shelf.now c.param_file.new.shelf
    c.in_err-params.field-0.0 c.in_err-params.ensures)

pub returns-clause-follows : goal.returns-clause-follows
returns-clause-follows g c =
    laws.passed_from g.H.Shelf (SaysParams c.args.names.now.params)
    (λ h ps. ScheduleAnd c.args.place.now c.args.names.now c.args.interface ps h)
    c.args.shelf.now c.param_file.new.shelf c.schedule_and.new.shelf
    c.in_ok-params.params c.schedule_and.result c.in_ok-params.ensures
    c.schedule_and.ensures.follows
