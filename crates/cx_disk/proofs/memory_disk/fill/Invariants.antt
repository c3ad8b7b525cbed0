use Rattle.std.proofs.Common.{◌-◌, vec_len}
use Rattle.cx_disk.specs.Disk.{SameFiles}
use Rattle.cx_disk.specs.Memory.{file_of}
use Rattle.cx_disk.proofs.memory_disk.fill.Given as goal

abbrev pub invariant-grow : goal.invariant-grow
invariant-grow l = SameFiles (file_of l.initial.files.items) (file_of l.files.items)

abbrev pub decreases-grow : goal.decreases-grow
decreases-grow l = l.count - vec_len l.files
