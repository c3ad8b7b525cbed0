use Rattle.std.proofs.Common.{◌≡◌}
use Rattle.core_tests.specs.Parts.{told_queue, Holds, EmptyFrom}
use Rattle.core_tests.proofs.exchange.post_some.Given as goal

abbrev pub invariant-senders : goal.invariant-senders
invariant-senders l =
    Holds l.cut l.dir (told_queue l.wire) × EmptyFrom l.cut l.k (told_queue l.wire)
    × (l.wire.parts ≡ l.initial.wire.parts)
