use Rattle.std.proofs.Common.{refl}
use Rattle.cx_disk.specs.Disk.{SameFiles}
use Rattle.cx_disk.proofs.Memory.{reading_synced, settled_by_sync, passes_noted}
use Rattle.cx_disk.proofs.memory_disk.MemoryDiskDisk.sync.Goals as goal

pub returns-clause-settled : goal.returns-clause-settled
returns-clause-settled c =
    settled_by_sync c.args.self.now c.change.new.self _ c.in_ok-change.ensures.ok refl

pub returns-clause-same : goal.returns-clause-same
returns-clause-same c = reading_synced c.args.self.now c.change.new.self _ c.in_ok-change.ensures.ok
    refl

pub returns-clause-after : goal.returns-clause-after
returns-clause-after c =
    passes_noted SameFiles c.args.self.now c.change.new.self _ c.in_ok-change.ensures.ok
    (λ seen images d left. (d, left.0, λ g. refl))
