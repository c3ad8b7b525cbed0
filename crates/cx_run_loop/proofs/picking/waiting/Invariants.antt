use Rattle.std.proofs.Common.{not}
use Rattle.cx_core.specs.Cores.{ahead_in, enabled_in}
use Rattle.cx_run_loop.proofs.PickLaws.{HasCounted}
use Rattle.cx_run_loop.proofs.picking.waiting.Given as goal

abbrev pub invariant-events : goal.invariant-events
invariant-events l =
    HasCounted (λ k. not (ahead_in l.core k)) (enabled_in l.core) l.k l.count
