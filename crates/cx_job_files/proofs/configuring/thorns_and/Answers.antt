use Rattle.std.proofs.Common.{ap, sym, subst, Ok}
use Rattle.cx_bind.specs.Variables.{variable_infos}
use Rattle.cx_job_files.specs.NamesAndLevels.{AreRead}
use Rattle.cx_job_files.proofs.ReadNames.{said_read}
use Rattle.std.proofs.lemmas.Result.{err_from_is_err_and}
use Rattle.cx_job_files.specs.Stages.{Is}
use Rattle.cx_job_files.specs.Configuring.{ThornsSay, configuration_of}
use Rattle.cx_job_files.proofs.ReadingLaws as laws
use Rattle.cx_job_files.proofs.ConfiguringLaws.{as_many}
use Rattle.cx_job_files.proofs.configuring.thorns_and.Goals as goal

pub returns-in_err-files-clause-follows : goal.returns-in_err-files-clause-follows
returns-in_err-files-clause-follows g c =
    let p = err_from_is_err_and c.from_residual.result c.from_residual.ensures.1 in
    rw (p.1, p.2) (laws.halted_from g.H.Shelf (ThornsSay c.args.places.now)
    (λ h ts. Is (Ok (configuration_of c.args.settings ts)))
    c.args.shelf.now c.thorns_said.new.shelf
    c.in_err-files.field-0.0 c.in_err-files.ensures.follows)

pub returns-clause-follows : goal.returns-clause-follows
returns-clause-follows g c =
    laws.passed_from g.H.Shelf (ThornsSay c.args.places.now)
    (λ h ts. Is (Ok (configuration_of c.args.settings ts)))
    c.args.shelf.now c.thorns_said.new.shelf c.thorns_said.new.shelf
    c.in_ok-files.files (Ok c.in_ok-with_files.field-0) c.in_ok-files.ensures.follows
    (laws.came_from g.H.Shelf (Is (Ok (configuration_of c.args.settings c.in_ok-files.files)))
    c.thorns_said.new.shelf (Ok c.in_ok-with_files.field-0)
    (laws.done (configuration_of c.args.settings c.in_ok-files.files)
    (Ok c.in_ok-with_files.field-0) (ap (λ c. Ok c) c.in_ok-with_files.ensures)))

pub returns-clause-as_many : goal.returns-clause-as_many
returns-clause-as_many g c =
    as_many c.args.settings c.in_ok-files.files c.in_ok-with_files.field-0
    c.in_ok-with_files.ensures

pub returns-clause-read : goal.returns-clause-read
returns-clause-read g c =
    λ named. subst (λ c. AreRead (variable_infos c.thorns)) (sym c.in_ok-with_files.ensures)
    (said_read c.in_ok-files.files (c.in_ok-files.ensures.read named))
