-- the path is a chain of different numbers, all seen, and the last one leads to it
use Rattle.std.proofs.Common.{length}
use Rattle.cx_order_least.proofs.Steps.{rest}
use Rattle.cx_order_least.proofs.WalkSteps.{Walk}
use Rattle.cx_order_least.proofs.cycle.walk_back.Given as goal

abbrev pub invariant-walk : goal.invariant-walk
invariant-walk l = Walk l.fn.before l.before l.marks l.seen.items l.path.items l.last

abbrev pub decreases-walk : goal.decreases-walk
decreases-walk l = length (rest l.seen.items (length l.marks))
