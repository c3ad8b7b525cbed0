use Rattle.std.proofs.Common.{◌≡◌, take}
use Rattle.cx_disk.proofs.memory_disk.copied.Given as goal

abbrev pub invariant-texts : goal.invariant-texts
invariant-texts l = l.copy.items ≡ take l.text-index l.files
