use Rattle.std.proofs.Common.{◌∙◌, sym, subst}
use Rattle.std.proofs.lemmas.Result.{err_from_is_err_and}
use Rattle.std.specs.Prelude.{Result}
use Rattle.cx_plan.specs.declared.job.Recover.TheVariants.{Autoprobe}
use Rattle.cx_chk.specs.declared.checkpoint.Checkpoint.{Checkpoint}
use Rattle.cx_keep.specs.declared.fault.BeginFault.{BeginFault}
use Rattle.cx_keep.specs.Tests.{IsFaultOf}
use Rattle.cx_keep.proofs.Going.{second_moments, second_started}
use Rattle.cx_keep.proofs.Starting.{quiet_alone}
use Rattle.cx_keep.proofs.Tested.{second_tested}
use Rattle.cx_keep.proofs.start.go_on_second.Goals as goal

pub returns-in_err-long_enough-clause-tests : goal.returns-in_err-long_enough-clause-tests
returns-in_err-long_enough-clause-tests g c = λ tells.
    let p = err_from_is_err_and c.from_residual.result c.from_residual.ensures.1 in
    rw (p.1, p.2) (subst (λ (s : Result Checkpoint BeginFault).
    IsFaultOf c.in_err-long_enough.field-0.0 s)
    (second_tested c.args.job.now (g.D.Disk.view c.args.disk.now).seen c.args.slot c.args.found
    (c.requires.spelled tells) c.requires.key c.requires.fits c.requires.version)
    (c.in_err-long_enough.ensures.tests tells))

pub returns-in_err-long_enough-clause-moments : goal.returns-in_err-long_enough-clause-moments
returns-in_err-long_enough-clause-moments g c = λ tells.
    quiet_alone c.args.job.now Autoprobe (g.D.Disk.view c.args.disk.now)
    (g.D.Disk.view c.long_enough.new.disk) (c.long_enough.ensures.quiet tells)

pub returns-in_err-resume-clause-moments : goal.returns-in_err-resume-clause-moments
returns-in_err-resume-clause-moments g c = λ tells.
    second_moments c.args.job.now (g.D.Disk.view c.args.disk.now)
    (g.D.Disk.view c.long_enough.new.disk) (g.D.Disk.view c.resume.new.disk)
    (g.met.D.Disk.sound c.args.disk.now tells) c.args.slot c.args.iteration
    (c.requires.newest tells) c.args.found (c.requires.spelled tells)
    (c.long_enough.ensures.quiet tells) c.requires.version c.requires.many
    (c.resume.ensures.moments tells)

pub returns-clause-tests : goal.returns-clause-tests
returns-clause-tests g c = λ tells.
    sym (second_tested c.args.job.now (g.D.Disk.view c.args.disk.now).seen c.args.slot c.args.found
    (c.requires.spelled tells) c.requires.key c.requires.fits c.requires.version)
    ∙ c.in_ok-long_enough.ensures.tests tells

pub returns-clause-started : goal.returns-clause-started
returns-clause-started g c = λ tells.
    second_started c.args.job.now (g.D.Disk.view c.args.disk.now)
    (g.D.Disk.view c.long_enough.new.disk) (g.D.Disk.view c.resume.new.disk)
    (g.met.D.Disk.sound c.args.disk.now tells) c.args.slot c.args.iteration
    (c.requires.newest tells) c.args.found (c.requires.spelled tells)
    (c.long_enough.ensures.quiet tells) c.requires.version c.requires.many
    (c.in_ok-resume.ensures.stands tells) (c.in_ok-resume.ensures.left tells c.args.job.now)
    (c.resume.ensures.earlier tells)

pub returns-clause-moments : goal.returns-clause-moments
returns-clause-moments g c = λ tells.
    second_moments c.args.job.now (g.D.Disk.view c.args.disk.now)
    (g.D.Disk.view c.long_enough.new.disk) (g.D.Disk.view c.resume.new.disk)
    (g.met.D.Disk.sound c.args.disk.now tells) c.args.slot c.args.iteration
    (c.requires.newest tells) c.args.found (c.requires.spelled tells)
    (c.long_enough.ensures.quiet tells) c.requires.version c.requires.many
    (c.resume.ensures.moments tells)
