-- what is there, with the rest, is what all bins make
use Rattle.cx_plan.specs.Lookups.{bin_count}
use Rattle.cx_order.specs.Plans.{bin_forest, forests}
use Rattle.cx_order.specs.PlanSteps.{world_in, entries_in, orders_in}
use Rattle.cx_order.proofs.PlanLaws.{BinsPassed, bins_from}
use Rattle.cx_order.proofs.planning.plan_bins.Given as goal

abbrev pub invariant-bins : goal.invariant-bins
invariant-bins l =
    BinsPassed (world_in l.source) l.bin l.fn.made l.made l.trees.items
    (forests (entries_in l.source) (orders_in l.source))
    (bins_from (bin_forest (entries_in l.source) (orders_in l.source)) bin_count l.bin)
