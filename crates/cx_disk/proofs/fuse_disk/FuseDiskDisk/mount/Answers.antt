use Rattle.std.proofs.Common.{subst}
use Rattle.cx_disk.specs.Disk.{SameFiles, Passes}
use Rattle.cx_disk.specs.Memory.{view_of}
use Rattle.cx_disk.specs.Fuse.{Fuse}
use Rattle.cx_disk.proofs.Memory.{passes_still}
use Rattle.cx_disk.proofs.fuse_disk.FuseDiskDisk.mount.Goals as goal

pub returns-then-not-passes-clause-after : goal.returns-then-not-passes-clause-after
returns-then-not-passes-clause-after c =
    subst (λ (f : Fuse). Passes SameFiles (view_of f.disk) (view_of c.self.inside.disk))
    c.self.view_is (passes_still c.self.inside.disk)
