use Rattle.std.proofs.Common.{◌≡◌, map, take}
use Rattle.cx_rule.specs.Patches.{capped, write_count}
use Rattle.cx_rule.proofs.patch.most_writes.Given as goal
use Rattle.cx_plan.specs.Lists.{greatest}

abbrev pub invariant-items : goal.invariant-items
invariant-items l = l.most ≡ capped (greatest (map write_count (take l.item-index l.items)))
