use Rattle.std.proofs.Common.{◌+◌, ◌∷◌, [], arith}
use Rattle.std.specs.Prelude.{codes}
use Rattle.cx_plan.specs.declared.tree.Tree.{Call, Sync, If}
use Rattle.front_tests.specs.RegionSamples.{wave, switch}
use Rattle.front_tests.proofs.RegionSampleLaws.{fits-at, fits-call, fits-if, fits-sync, step-whole}
use Rattle.front_tests.proofs.region.output_without_the_only_writer_is_shown.Goals as goal

pub is_shown-requires : goal.is_shown-requires
is_shown-requires g c =
    let begun = fits-at c.in_ok-perhaps.perhaps (If switch (codes "EVOL/w") (Call 1)) (1 + 1)
    (1 + 1) c.in_ok-perhaps.ensures
    (fits-if (codes "EVOL/w") (Call 1) 1 1 (fits-call 1 (omega arith))) in
    let exchanged = fits-at c.in_ok-between.between (Sync (wave ∷ []) (codes "EVOL/w"))
    1 1 c.in_ok-between.ensures (fits-sync (codes "EVOL/w")) in
    step-whole c.in_ok-first.first c.in_ok-evol.evol c.in_ok-perhaps.perhaps c.in_ok-between.between
    (1 + 1) (1 + 1) 1 1 c.in_ok-first.ensures c.in_ok-evol.ensures begun exchanged (omega arith)
    (omega arith) (omega arith)
