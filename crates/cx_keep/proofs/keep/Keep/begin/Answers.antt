use Rattle.std.proofs.Common.{subst}
use Rattle.std.specs.Prelude.{Result, Option}
use Rattle.cx_disk.proofs.Moments.{quiet_call}
use Rattle.cx_chk.specs.declared.checkpoint.Checkpoint.{Checkpoint}
use Rattle.cx_keep.specs.declared.fault.BeginFault.{BeginFault}
use Rattle.cx_keep.specs.Tests.{Answers}
use Rattle.cx_keep.proofs.Starting.{begun_same, quiet_alone, moments_quiet, started_quiet, refused_quiet, if_ok_more}
use Rattle.cx_keep.proofs.keep.Keep.begin.Goals as goal

pub returns-in_err-mount-clause-moments : goal.returns-in_err-mount-clause-moments
returns-in_err-mount-clause-moments g c = λ tells.
    quiet_alone c.args.job.now c.args.job.now.recover (g.D.Disk.view c.args.disk.now)
    (g.D.Disk.view c.mount.new.self)
    (quiet_call (c.mount.ensures.same tells) (c.mount.ensures.after tells))

pub returns-clause-begun : goal.returns-clause-begun
returns-clause-begun g c = λ tells.
    subst (λ (s : Result (Option Checkpoint) BeginFault).
    Answers (λ r. r.1) c.begin_mounted.result s)
    (begun_same c.args.job.now (g.D.Disk.view c.args.disk.now).seen
    (g.D.Disk.view c.mount.new.self).seen (c.mount.ensures.same tells))
    (c.begin_mounted.ensures.begun tells)

pub returns-clause-refused : goal.returns-clause-refused
returns-clause-refused g c = λ tells.
    refused_quiet c.begin_mounted.result (g.D.Disk.view c.args.disk.now)
    (g.D.Disk.view c.mount.new.self) (g.D.Disk.view c.begin_mounted.new.disk)
    (quiet_call (c.mount.ensures.same tells) (c.mount.ensures.after tells))
    (c.begin_mounted.ensures.refused tells)

pub returns-clause-started : goal.returns-clause-started
returns-clause-started g c = λ tells.
    if_ok_more c.begin_mounted.result
    (λ r s. started_quiet c.args.job.now c.args.job.now.recover r.1 (g.D.Disk.view c.args.disk.now)
    (g.D.Disk.view c.mount.new.self) (g.D.Disk.view c.begin_mounted.new.disk)
    (quiet_call (c.mount.ensures.same tells) (c.mount.ensures.after tells)) s)
    (c.begin_mounted.ensures.started tells)

pub returns-clause-moments : goal.returns-clause-moments
returns-clause-moments g c = λ tells.
    moments_quiet c.args.job.now c.args.job.now.recover (g.D.Disk.view c.args.disk.now)
    (g.D.Disk.view c.mount.new.self) (g.D.Disk.view c.begin_mounted.new.disk)
    (quiet_call (c.mount.ensures.same tells) (c.mount.ensures.after tells))
    (c.begin_mounted.ensures.moments tells)
