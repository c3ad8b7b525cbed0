use Rattle.std.proofs.Common.{◌≡◌}
use Rattle.cx_cut.specs.Cuts.{part_count}
use Rattle.core_tests.specs.Parts.{AreParts, told_queue, EmptyFrom}
use Rattle.core_tests.proofs.exchange.exchanged.Given as goal

abbrev pub invariant-rounds : goal.invariant-rounds
invariant-rounds l =
    AreParts l.cut (part_count l.cut) l.patches.items × EmptyFrom l.cut 0 (told_queue l.wire)
    × (l.wire.parts ≡ part_count l.cut)
