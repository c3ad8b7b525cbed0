use Rattle.cx_plan.specs.Whole.{IsName}
use Rattle.cx_job_files.proofs.ReadNames.{selected_too}
use Rattle.cx_job_files.proofs.configuring.chosen.Goals as goal

pub returns-clause-named : goal.returns-clause-named
returns-clause-named c =
    λ named. selected_too (λ place. IsName place.1)
    c.args.list.now c.args.active.now c.in_ok-select.field-0 named c.in_ok-select.ensures
