-- the state, with what must be placed growing shorter
use Rattle.std.proofs.Common.{length}
use Rattle.cx_order_least.specs.Orders.{pair_before}
use Rattle.cx_order_least.proofs.Steps.{State, rest}
use Rattle.cx_order_least.proofs.least.least_order.Given as goal

abbrev pub invariant-placed : goal.invariant-placed
invariant-placed l = State (pair_before l.pairs)
    l.count l.sorting.graph.before l.sorting.graph.after l.sorting.marks.items l.sorting.candidates
    l.sorting.order.items

abbrev pub decreases-placed : goal.decreases-placed
decreases-placed l = length (rest l.sorting.marks.items l.count)
