use Rattle.std.proofs.Common.{subst, sym}
use Rattle.std.proofs.lemmas.Result.{err_from_is_err_and}
use Rattle.cx_bind.specs.Selecting.{select}
use Rattle.cx_job_files.specs.declared.fault.ConfigFault.TheVariants as faults
use Rattle.cx_job_files.specs.Stages.{Is, or_fault}
use Rattle.cx_job_files.specs.Configuring.{ThornsAnd}
use Rattle.cx_bind.specs.Variables.{variable_infos}
use Rattle.cx_job_files.specs.NamesAndLevels.{AreNamed, AreRead}
use Rattle.cx_job_files.proofs.ReadingLaws as laws
use Rattle.cx_job_files.proofs.ConfiguringLaws.{read_too}
use Rattle.cx_job_files.proofs.configuring.places_and.Goals as goal

pub returns-in_err-places-clause-follows : goal.returns-in_err-places-clause-follows
returns-in_err-places-clause-follows g c =
    let told = or_fault faults.Bind (select c.args.list.now c.args.settings.active) in
    let p = err_from_is_err_and c.from_residual.result c.from_residual.ensures.1 in
    rw (p.1, p.2) (laws.halted_from g.H.Shelf (λ _. Is told)
    (λ h places. ThornsAnd c.args.settings places h)
    c.args.shelf.now c.args.shelf.now
    c.in_err-places.field-0.0
    (laws.came_from g.H.Shelf (Is told) c.args.shelf.now _ c.in_err-places.ensures.comes))

pub returns-clause-follows : goal.returns-clause-follows
returns-clause-follows g c =
    let told = or_fault faults.Bind (select c.args.list.now c.args.settings.active) in
    laws.passed_from g.H.Shelf (λ _. Is told) (λ h places. ThornsAnd c.args.settings places h)
    c.args.shelf.now c.args.shelf.now c.thorns_and.new.shelf
    c.in_ok-places.places c.thorns_and.result
    (laws.came_from g.H.Shelf (Is told) c.args.shelf.now _ c.in_ok-places.ensures.comes)
    (rw c.as_slice.ensures at c.thorns_and.ensures.follows)

pub returns-clause-read : goal.returns-clause-read
returns-clause-read g c =
    read_too (AreNamed c.args.list.now.places) (AreNamed c.as_slice.result.now)
    (λ configured. AreRead (variable_infos configured.thorns)) c.thorns_and.result
    (λ named. subst AreNamed (sym c.as_slice.ensures) (c.in_ok-places.ensures.named named))
    c.thorns_and.ensures.read
