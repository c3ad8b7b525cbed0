use Rattle.std.proofs.Common.{refl, arith}
use Rattle.std.proofs.lemmas.Result.{err_from_is_err_and}
use Rattle.cx_run_made.specs.Files.{made_files}
use Rattle.cx_run.specs.Calls.{shelf_of}
use Rattle.cx_run.proofs.MadeLaws.{same_files, wanting}
use Rattle.cx_run.proofs.call.made_job.Goals as goal

pub returns-in_err-files-clause-made : goal.returns-in_err-files-clause-made
returns-in_err-files-clause-made g c =
    let p = err_from_is_err_and c.from_residual.result c.from_residual.ensures.1 in
    rw (p.1, p.2) (wanting (shelf_of (made_files c.args.seed c.args.size)) c.args.name.now _
    (λ told. refl) (omega arith))

pub returns-clause-made : goal.returns-clause-made
returns-clause-made g c =
    same_files c.in_ok-files.files (made_files c.args.seed c.args.size)
    c.args.name.now _ c.job_among.result c.in_ok-files.ensures c.job_among.ensures.made
