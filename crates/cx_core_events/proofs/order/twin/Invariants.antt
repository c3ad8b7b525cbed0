use Rattle.std.proofs.Common.{◌≡◌, drop}
use Rattle.cx_core_events.specs.Paces.{twin_from}
use Rattle.cx_core_events.proofs.order.twin.Given as goal

abbrev pub invariant-parts : goal.invariant-parts
invariant-parts l = twin_from l.n l.k l.here (drop l.n l.parts) ≡ twin_from 0 l.k l.here l.parts
