use Rattle.std.proofs.Common.{◌≡◌, take}
use Rattle.cx_job.specs.LocalCells.{greatest}
use Rattle.cx_job.proofs.cells.most_writes.Given as goal
use Rattle.cx_rule.specs.Patches.{write_count}

abbrev pub invariant-items : goal.invariant-items
invariant-items l = l.most ≡ greatest write_count (take l.item-index l.items)
