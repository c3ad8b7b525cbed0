-- Where no place was found, the number does not stand in the list.
use Rattle.std.proofs.Common.{arith}
use Rattle.cx_order_least.proofs.CycleWalks.{none-counts}
use Rattle.cx_order_least.proofs.cycle.place_of.Goals as goal

pub returns-clause-none : goal.returns-clause-none
returns-clause-none c = none-counts c.args.number c.args.path.now
    (λ k h. c.loop-place.invariant k (omega (arith, h, c.loop-place-test.false)))
