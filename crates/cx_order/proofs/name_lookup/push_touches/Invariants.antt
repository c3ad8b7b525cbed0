use Rattle.std.proofs.Common.{◌≡◌, ◌++◌, map, take}
use Rattle.cx_order.specs.Meanings.{touch}
use Rattle.cx_order.proofs.name_lookup.push_touches.Given as goal

abbrev pub invariant-levels : goal.invariant-levels
invariant-levels l = l.touches.items
    ≡ l.fn.touches.items ++ map (touch l.region) (take l.var-index l.levels)
