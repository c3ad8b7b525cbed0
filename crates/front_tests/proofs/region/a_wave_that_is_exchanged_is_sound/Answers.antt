use Rattle.std.proofs.Common.{◌∷◌, [], arith}
use Rattle.std.specs.Prelude.{codes}
use Rattle.cx_plan.specs.declared.tree.Tree.{Call, Sync}
use Rattle.front_tests.specs.RegionSamples.{wave}
use Rattle.front_tests.proofs.RegionSampleLaws.{fits-at, fits-call, fits-sync, step-whole}
use Rattle.front_tests.proofs.region.a_wave_that_is_exchanged_is_sound.Goals as goal

pub is_sound-requires : goal.is_sound-requires
is_sound-requires g c =
    let exchanged = fits-at c.in_ok-between.between (Sync (wave ∷ []) (codes "EVOL/w"))
    1 1 c.in_ok-between.ensures (fits-sync (codes "EVOL/w")) in
    step-whole c.in_ok-first.first c.in_ok-evol.evol (Call 1)
    c.in_ok-between.between 1 1 1 1 c.in_ok-first.ensures c.in_ok-evol.ensures
    (fits-call 1 (omega arith)) exchanged (omega arith) (omega arith) (omega arith)
