use Rattle.std.proofs.Common.{drop}
use Rattle.cx_order.proofs.StorageLaws.{Raised}
use Rattle.cx_order.proofs.storage.raise_group.Given as goal

abbrev pub invariant-group : goal.invariant-group
invariant-group l = Raised l.variables l.levels l.fn.stored l.stored l.group
    (drop l.variable-index l.group)
