use Rattle.cx_keep.proofs.Starting.{started_any, moments_any}
use Rattle.cx_keep.proofs.start.with_newest.Goals as goal

pub returns-in_err-found-clause-moments : goal.returns-in_err-found-clause-moments
returns-in_err-found-clause-moments g c =
    λ tells. moments_any c.args.job.now c.args.job.now.recover (g.D.Disk.view c.args.disk.now)
    (g.D.Disk.view c.go_on.new.disk) c.requires.kept (c.go_on.ensures.moments tells)

pub returns-clause-started : goal.returns-clause-started
returns-clause-started g c =
    λ tells. started_any c.args.job.now c.args.job.now.recover _ (g.D.Disk.view c.args.disk.now)
    (g.D.Disk.view c.go_on.new.disk) c.requires.kept (c.in_ok-found.ensures.started tells)

pub returns-clause-moments : goal.returns-clause-moments
returns-clause-moments g c =
    λ tells. moments_any c.args.job.now c.args.job.now.recover (g.D.Disk.view c.args.disk.now)
    (g.D.Disk.view c.go_on.new.disk) c.requires.kept (c.go_on.ensures.moments tells)
