use Rattle.std.proofs.Common.{arith}
use Rattle.cx_plan.specs.declared.tree.Tree.{Call}
use Rattle.front_tests.specs.RegionSamples.{nothing}
use Rattle.front_tests.proofs.RegionSampleLaws.{fits-at, fits-call, fits-nothing, step-whole}
use Rattle.front_tests.proofs.region.a_wave_without_exchange_is_not.Goals as goal

pub is_sound-requires : goal.is_sound-requires
is_sound-requires g c =
    let none = fits-at c.nothing-between.result nothing 1 1 c.nothing-between.ensures
    fits-nothing in
    step-whole c.in_ok-first.first c.in_ok-evol.evol (Call 1)
    c.nothing-between.result 1 1 1 1 c.in_ok-first.ensures c.in_ok-evol.ensures
    (fits-call 1 (omega arith)) none (omega arith) (omega arith) (omega arith)
