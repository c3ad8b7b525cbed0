use Rattle.std.proofs.Common.{◌≡◌}
use Rattle.cx_plan.specs.Lists.{once}
use Rattle.cx_order.proofs.Joined.{come}
use Rattle.cx_order.proofs.name_lookup.each_once.Given as goal
use Rattle.cx_plan.specs.Regions.{same_variable}

abbrev pub invariant-variables : goal.invariant-variables
invariant-variables l = come same_variable l.variables l.list l.variable-index
    ≡ once same_variable l.variables
