use Rattle.std.proofs.Common.{◌≡◌, take}
use Rattle.cx_folder.proofs.names.copied.Given as goal

abbrev pub invariant-texts : goal.invariant-texts
invariant-texts l = l.copy.items ≡ take l.text-index l.names
