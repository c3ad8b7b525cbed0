use Rattle.std.proofs.Common.{◌≡◌, []}
use Rattle.std.specs.Prelude.{replicate}
use Rattle.cx_wire.proofs.memory_wire.no_messages.Given as goal

abbrev pub invariant-queues : goal.invariant-queues
invariant-queues l = l.queues.items ≡ replicate l.counter []
