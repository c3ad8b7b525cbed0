use Rattle.std.proofs.Common.{sym, subst, map}
use Rattle.std.proofs.lemmas.Result.{err_from_is_err_and}
use Rattle.cx_plan.specs.Whole.{IsWhole}
use Rattle.cx_job_files.specs.Stages.{Is}
use Rattle.cx_job.specs.Making.{Accepts, cut_limits, within_cut}
use Rattle.cx_job.proofs.MakingLaws.{yields_halt, unless_ok}
use Rattle.cx_job.proofs.stages.cut_and.Goals as goal

pub returns-in_err-job : goal.returns-in_err-job
returns-in_err-job c =
    let p = err_from_is_err_and c.from_residual.result c.from_residual.ensures.1 in
    rw (p.1, p.2) (yields_halt (Is (within_cut (map (λ s. s.now) c.args.specs.now) c.args.job))
    Accepts c.in_err-job.field-0.0 c.in_err-job.ensures)

pub accept-requires : goal.accept-requires
accept-requires c = subst IsWhole
    (sym (unless_ok (cut_limits (map (λ s. s.now) c.args.specs.now) c.args.job)
    c.args.job c.in_ok-job.job c.in_ok-job.ensures).1) c.requires
