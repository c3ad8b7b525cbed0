use Rattle.std.proofs.Common.{take}
use Rattle.cx_bind.specs.NameRanges.{AreAdded}
use Rattle.cx_bind.proofs.extensions.ranges_by_names.Given as goal

abbrev pub invariant-extensions : goal.invariant-extensions
invariant-extensions l = AreAdded (take l.extension-index l.extensions) l.ranges
