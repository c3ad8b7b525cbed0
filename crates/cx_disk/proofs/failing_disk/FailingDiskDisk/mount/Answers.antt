use Rattle.std.proofs.Common.{subst}
use Rattle.cx_disk.specs.Disk.{SameFiles, Passes}
use Rattle.cx_disk.specs.Memory.{History, view_of}
use Rattle.cx_disk.proofs.FailingLaws.{disk_same}
use Rattle.cx_disk.proofs.Memory.{passes_still}
use Rattle.cx_disk.proofs.failing_disk.FailingDiskDisk.mount.Goals as goal

pub returns-then-fails-clause-after : goal.returns-then-fails-clause-after
returns-then-fails-clause-after c =
    subst (λ (d : History). Passes SameFiles (view_of d) (view_of c.fails.new.self.disk))
    (disk_same c.fails.result c.args.self.now c.fails.new.self c.fails.ensures.new)
    (passes_still c.fails.new.self.disk)
