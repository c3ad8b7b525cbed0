use Rattle.std.proofs.Common.{◌+◌, arith}
use Rattle.cx_plan.specs.declared.tree.Tree.{Call}
use Rattle.front_tests.specs.RegionSamples.{whiles}
use Rattle.front_tests.proofs.RegionSampleLaws.{fits-at, fits-call, fits-whiles, evol-whole}
use Rattle.front_tests.proofs.region.a_turn_that_clears_the_boundary_is_shown.Goals as goal

pub is_shown-requires : goal.is_shown-requires
is_shown-requires g c =
    let within = fits-at c.in_ok-turns.turns (whiles 3 (Call 2)) (3 + 1) (3 + 1)
    c.in_ok-turns.ensures (fits-whiles 3 (Call 2) 1 1 (fits-call 2 (omega arith))) in
    evol-whole c.in_ok-first.first c.in_ok-evol.evol (Call 1) c.in_ok-turns.turns 1 1 (3 + 1)
    (3 + 1) c.in_ok-first.ensures c.in_ok-evol.ensures (fits-call 1 (omega arith)) within
    (omega arith) (omega arith) (omega arith)
