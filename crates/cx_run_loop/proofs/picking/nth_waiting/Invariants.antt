use Rattle.std.proofs.Common.{not}
use Rattle.cx_core.specs.Cores.{ahead_in, enabled_in}
use Rattle.cx_run_loop.proofs.PickLaws.{IsLeft}
use Rattle.cx_run_loop.proofs.picking.nth_waiting.Given as goal

abbrev pub invariant-events : goal.invariant-events
invariant-events l =
    IsLeft (λ k. not (ahead_in l.core k)) (enabled_in l.core) l.i l.k l.left
