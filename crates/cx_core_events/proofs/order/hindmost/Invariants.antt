use Rattle.std.proofs.Common.{◌≡◌}
use Rattle.cx_core_events.specs.Paces.{hindmost_of}
use Rattle.cx_core_events.proofs.order.hindmost.Given as goal

abbrev pub invariant-parts : goal.invariant-parts
invariant-parts l = l.hind ≡ hindmost_of l.parts l.k
