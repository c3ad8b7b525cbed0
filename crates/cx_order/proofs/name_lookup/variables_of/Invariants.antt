use Rattle.std.proofs.Common.{◌≡◌, map, take}
use Rattle.cx_order.proofs.name_lookup.variables_of.Given as goal

abbrev pub invariant-levels : goal.invariant-levels
invariant-levels l = l.variables ≡ map (λ level. level.0) (take l.variable-index l.levels)
