use Rattle.std.proofs.Common.{◌≡◌, map, take}
use Rattle.cx_rule.specs.Patches.{capped, value_count}
use Rattle.cx_rule.proofs.patch.most_values.Given as goal
use Rattle.cx_plan.specs.Lists.{greatest}

abbrev pub invariant-items : goal.invariant-items
invariant-items l = l.most
    ≡ capped (greatest (map (value_count l.dims) (take l.item-index l.items)))
