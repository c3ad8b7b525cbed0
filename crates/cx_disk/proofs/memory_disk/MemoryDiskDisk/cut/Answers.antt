use Rattle.cx_disk.specs.Disk.{Changes, CutShort}
use Rattle.cx_disk.proofs.Memory.{reading_own, reading_others, passes_noted}
use Rattle.cx_disk.proofs.memory_disk.MemoryDiskDisk.cut.Goals as goal

pub returns-clause-cut : goal.returns-clause-cut
returns-clause-cut c = reading_own c.args.self.now c.change.new.self _ c.in_ok-change.ensures.ok

pub returns-clause-others : goal.returns-clause-others
returns-clause-others c =
    λ other ne. reading_others c.args.self.now c.change.new.self _ other c.in_ok-change.ensures.ok
    ne

pub returns-clause-after : goal.returns-clause-after
returns-clause-after c =
    passes_noted (Changes (CutShort c.args.to) c.args.file)
    c.args.self.now c.change.new.self _ c.in_ok-change.ensures.ok (λ seen images d left. left)
