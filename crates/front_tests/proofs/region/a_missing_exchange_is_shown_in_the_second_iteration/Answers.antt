use Rattle.std.proofs.Common.{arith}
use Rattle.cx_plan.specs.declared.tree.Tree.{Call}
use Rattle.front_tests.proofs.RegionSampleLaws.{fits-call, evol-whole}
use Rattle.front_tests.proofs.region.a_missing_exchange_is_shown_in_the_second_iteration.Goals as goal

pub is_shown-requires : goal.is_shown-requires
is_shown-requires g c =
    evol-whole c.in_ok-first.first c.in_ok-evol.evol (Call 2) (Call 4)
    1 1 1 1 c.in_ok-first.ensures c.in_ok-evol.ensures (fits-call 2 (omega arith))
    (fits-call 4 (omega arith)) (omega arith) (omega arith) (omega arith)
