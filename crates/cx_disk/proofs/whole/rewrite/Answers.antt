use Rattle.std.proofs.Common.{length}
use Rattle.std.proofs.lemmas.Result.{on_ok_weaker}
use Rattle.cx_disk.specs.Disk.{Anew}
use Rattle.cx_disk.proofs.Anew.{written_alone, emptied, refilled}
use Rattle.cx_disk.proofs.Moments.{stepped_quiet, done_sync}
use Rattle.cx_disk.proofs.whole.rewrite.Goals as goal

pub returns-in_err-cut-clause-after : goal.returns-in_err-cut-clause-after
returns-in_err-cut-clause-after g c =
    λ tells. emptied (length c.args.bytes.now) c.args.file (g.D.Disk.view c.args.disk.now)
    (g.D.Disk.view c.cut.new.self) (c.cut.ensures.others tells) (c.cut.ensures.after tells)

pub returns-in_err-write_at-clause-after : goal.returns-in_err-write_at-clause-after
returns-in_err-write_at-clause-after g c = λ tells.
    refilled (length c.args.bytes.now) c.args.file (g.D.Disk.view c.args.disk.now)
    (g.D.Disk.view c.cut.new.self) (g.D.Disk.view c.write_at.new.self)
    (emptied (length c.args.bytes.now) c.args.file (g.D.Disk.view c.args.disk.now)
    (g.D.Disk.view c.cut.new.self) (c.cut.ensures.others tells) (c.cut.ensures.after tells))
    (c.write_at.ensures.others tells) (c.write_at.ensures.after tells)

pub returns-clause-after : goal.returns-clause-after
returns-clause-after g c = λ tells.
    stepped_quiet
    (refilled (length c.args.bytes.now) c.args.file (g.D.Disk.view c.args.disk.now)
    (g.D.Disk.view c.cut.new.self) (g.D.Disk.view c.write_at.new.self)
    (emptied (length c.args.bytes.now) c.args.file (g.D.Disk.view c.args.disk.now)
    (g.D.Disk.view c.cut.new.self) (c.cut.ensures.others tells) (c.cut.ensures.after tells))
    (c.write_at.ensures.others tells) (c.write_at.ensures.after tells))
    (c.sync.ensures.same tells) (c.sync.ensures.after tells)

pub returns-clause-done : goal.returns-clause-done
returns-clause-done g c = λ tells.
    on_ok_weaker c.sync.result
    (λ settled. done_sync {exact = Anew c.args.bytes.now} {file = c.args.file}
    {mid = (g.D.Disk.view c.write_at.new.self).seen} {old = g.D.Disk.view c.args.disk.now}
    {new = g.D.Disk.view c.sync.new.self}
    (written_alone c.args.bytes.now ((g.D.Disk.view c.args.disk.now).seen c.args.file)
    ((g.D.Disk.view c.cut.new.self).seen c.args.file)
    ((g.D.Disk.view c.write_at.new.self).seen c.args.file)
    (c.in_ok-cut.ensures.cut tells) (c.in_ok-write_at.ensures.written tells))
    (c.sync.ensures.same tells) settled)
    (c.sync.ensures.settled tells)
