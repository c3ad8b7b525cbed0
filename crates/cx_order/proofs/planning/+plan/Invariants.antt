-- what is there, with the rest, is what all entries make
use Rattle.std.proofs.Common.{suc, drop, ◌+◌, ◌*◌}
use Rattle.cx_order_entries.specs.Members.{entries_of}
use Rattle.cx_order.specs.PlanSteps.{world_in, entries_in, orders_in, row_with}
use Rattle.cx_order.proofs.PlanLaws.{Passed}
use Rattle.cx_order.proofs.planning.+plan.Given as goal

abbrev pub invariant-plan_members-members : goal.invariant-plan_members-members
invariant-plan_members-members l =
    Passed (world_in l.source) (suc l.around) l.fn.made l.made l.trees.items
    (row_with l.nesting (entries_in l.source) (orders_in l.source) l.path
    (entries_of (entries_in l.source) l.members))
    (row_with l.nesting (entries_in l.source) (orders_in l.source) l.path
    (entries_of (entries_in l.source) (drop l.index-index l.members)))

abbrev pub decreases-plan_place : goal.decreases-plan_place
decreases-plan_place l = 4 * l.nesting

abbrev pub decreases-plan_members : goal.decreases-plan_members
decreases-plan_members l = 4 * l.nesting + 3

abbrev pub decreases-plan_member : goal.decreases-plan_member
decreases-plan_member l = 4 * l.nesting + 2

abbrev pub decreases-plan_work : goal.decreases-plan_work
decreases-plan_work l = 4 * l.nesting + 1
