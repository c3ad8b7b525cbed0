use Rattle.std.proofs.lemmas.Result.{err_from_is_err_and}
use Rattle.cx_job_files.specs.Reading.{SaysInterface, ParamsAnd}
use Rattle.cx_job_files.proofs.ReadingLaws as laws
use Rattle.cx_job_files.proofs.reading.thorn_says.Goals as goal

pub returns-in_err-interface-clause-follows : goal.returns-in_err-interface-clause-follows
returns-in_err-interface-clause-follows g c =
    let p = err_from_is_err_and c.from_residual.result c.from_residual.ensures.1 in
    rw (p.1, p.2) (laws.halted_from g.H.Shelf (SaysInterface c.args.names.now.interface)
    (λ h i. ParamsAnd c.args.place.now c.args.names.now i h)
    c.args.shelf.now c.interface_file.new.shelf
    c.in_err-interface.field-0.0 c.in_err-interface.ensures.follows)

pub returns-clause-follows : goal.returns-clause-follows
returns-clause-follows g c =
    laws.passed_from g.H.Shelf (SaysInterface c.args.names.now.interface)
    (λ h i. ParamsAnd c.args.place.now c.args.names.now i h)
    c.args.shelf.now c.interface_file.new.shelf c.params_and.new.shelf
    c.in_ok-interface.interface c.params_and.result c.in_ok-interface.ensures.follows
    c.params_and.ensures.follows
