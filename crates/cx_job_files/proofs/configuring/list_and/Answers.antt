use Rattle.std.proofs.Common.{codes}
use Rattle.std.proofs.lemmas.Result.{err_from_is_err_and}
use Rattle.cx_job_files.specs.Reading.{SaysThornList}
use Rattle.cx_job_files.specs.Configuring.{PlacesAnd}
use Rattle.cx_job_files.proofs.ReadingLaws as laws
use Rattle.cx_job_files.proofs.configuring.list_and.Goals as goal

pub returns-in_err-list-clause-follows : goal.returns-in_err-list-clause-follows
returns-in_err-list-clause-follows g c =
    let p = err_from_is_err_and c.from_residual-in_err-list.result
    c.from_residual-in_err-list.ensures.1 in
    rw (p.1, p.2) (laws.halted_from g.H.Shelf (SaysThornList (codes "ThornList"))
    (λ h l. PlacesAnd c.args.settings l h)
    c.args.shelf.now c.thorn_list_file.new.shelf
    c.in_err-list.field-0.0 (rw c.in_ok-name.ensures at c.in_err-list.ensures.follows))

pub returns-clause-follows : goal.returns-clause-follows
returns-clause-follows g c =
    laws.passed_from g.H.Shelf (SaysThornList (codes "ThornList"))
    (λ h l. PlacesAnd c.args.settings l h)
    c.args.shelf.now c.thorn_list_file.new.shelf c.places_and.new.shelf
    c.in_ok-list.list c.places_and.result (rw c.in_ok-name.ensures at c.in_ok-list.ensures.follows)
    c.places_and.ensures.follows
