use Rattle.std.proofs.lemmas.Result.{err_from_is_err_and}
use Rattle.cx_job_files.specs.Reading.{SaysSchedule, ConfAnd}
use Rattle.cx_job_files.proofs.ReadingLaws as laws
use Rattle.cx_job_files.proofs.reading.schedule_and.Goals as goal

pub returns-in_err-schedule-clause-follows : goal.returns-in_err-schedule-clause-follows
returns-in_err-schedule-clause-follows g c =
    let p = err_from_is_err_and c.from_residual.result c.from_residual.ensures.1 in
    rw (p.1, p.2) (laws.halted_from g.H.Shelf (SaysSchedule c.args.names.now.schedule)
    (λ h s. ConfAnd c.args.place.now c.args.names.now
    (record { interface = c.args.interface; params = c.args.params; schedule = s }) h)
    c.args.shelf.now c.schedule_file.new.shelf
    c.in_err-schedule.field-0.0 c.in_err-schedule.ensures)

pub returns-clause-follows : goal.returns-clause-follows
returns-clause-follows g c =
    laws.passed_from g.H.Shelf (SaysSchedule c.args.names.now.schedule)
    (λ h s. ConfAnd c.args.place.now c.args.names.now
    (record { interface = c.args.interface; params = c.args.params; schedule = s }) h)
    c.args.shelf.now c.schedule_file.new.shelf c.conf_and.new.shelf
    c.in_ok-schedule.schedule c.conf_and.result c.in_ok-schedule.ensures c.conf_and.ensures.follows
