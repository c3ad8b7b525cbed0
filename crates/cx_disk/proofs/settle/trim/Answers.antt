use Rattle.std.proofs.lemmas.Result.{on_ok_weaker}
use Rattle.cx_disk.specs.Disk.{Front}
use Rattle.cx_disk.proofs.Moments.{stepped_call, stepped_quiet, done_sync}
use Rattle.cx_disk.proofs.settle.trim.Goals as goal

pub returns-in_err-cut-clause-after : goal.returns-in_err-cut-clause-after
returns-in_err-cut-clause-after g c =
    λ tells. stepped_call (c.cut.ensures.others tells) (c.cut.ensures.after tells)

pub returns-clause-after : goal.returns-clause-after
returns-clause-after g c =
    λ tells. stepped_quiet (stepped_call (c.cut.ensures.others tells) (c.cut.ensures.after tells))
    (c.sync.ensures.same tells) (c.sync.ensures.after tells)

pub returns-clause-done : goal.returns-clause-done
returns-clause-done g c = λ tells.
    on_ok_weaker c.sync.result
    (λ settled. done_sync {exact = Front c.args.to} {file = c.args.file}
    {mid = (g.D.Disk.view c.cut.new.self).seen} {old = g.D.Disk.view c.args.disk.now}
    {new = g.D.Disk.view c.sync.new.self} (c.in_ok-cut.ensures.cut tells)
    (c.sync.ensures.same tells) settled)
    (c.sync.ensures.settled tells)
