use Rattle.std.proofs.Common.{◌≡◌}
use Rattle.cx_cut.specs.Cuts.{part_count}
use Rattle.core_tests.specs.Parts.{AreParts, told_queue, Holds, EmptyTo}
use Rattle.core_tests.proofs.exchange.take_all.Given as goal

abbrev pub invariant-takers : goal.invariant-takers
invariant-takers l =
    AreParts l.cut (part_count l.cut) l.patches.items
    × Holds l.cut l.dir (told_queue l.wire) × EmptyTo l.cut l.k (told_queue l.wire)
    × (l.wire.parts ≡ l.initial.wire.parts)
