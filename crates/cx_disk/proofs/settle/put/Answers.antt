use Rattle.std.proofs.lemmas.Result.{on_ok_weaker}
use Rattle.cx_disk.specs.Disk.{Holds}
use Rattle.cx_disk.proofs.Moments.{stepped_call, stepped_quiet, done_sync}
use Rattle.cx_disk.proofs.settle.put.Goals as goal

pub returns-in_err-write_at-clause-after : goal.returns-in_err-write_at-clause-after
returns-in_err-write_at-clause-after g c =
    λ tells. stepped_call (c.write_at.ensures.others tells) (c.write_at.ensures.after tells)

pub returns-clause-after : goal.returns-clause-after
returns-clause-after g c =
    λ tells. stepped_quiet (stepped_call (c.write_at.ensures.others tells)
    (c.write_at.ensures.after tells)) (c.sync.ensures.same tells) (c.sync.ensures.after tells)

pub returns-clause-done : goal.returns-clause-done
returns-clause-done g c = λ tells.
    on_ok_weaker c.sync.result
    (λ settled. done_sync {exact = Holds c.args.at c.args.bytes.now} {file = c.args.file}
    {mid = (g.D.Disk.view c.write_at.new.self).seen} {old = g.D.Disk.view c.args.disk.now}
    {new = g.D.Disk.view c.sync.new.self} (c.in_ok-write_at.ensures.written tells)
    (c.sync.ensures.same tells) settled)
    (c.sync.ensures.settled tells)
