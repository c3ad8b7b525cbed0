use Rattle.std.proofs.Common.{◌≡◌, length}
use Rattle.cx_program.proofs.program.folder_disks.Given as goal

abbrev pub invariant-disks : goal.invariant-disks
invariant-disks l = length l.disks.items ≡ l.counter
