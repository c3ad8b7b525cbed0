use Rattle.std.proofs.Common.{◌≡◌, IsTrue, map}
use Rattle.cx_plan.specs.Setups.{setup_of}
use Rattle.cx_core.specs.Left.{steps_left}
use Rattle.cx_core.specs.Steps.{IsRunning, stands_at}
use Rattle.core_tests.proofs.runs.to_end.Given as goal

abbrev pub invariant-events : goal.invariant-events
invariant-events g l =
    let rules = map (λ r. (goal.Routine-dyn g (r.vtable, r.value)).rule r.value) l.routines in
    record {
      there : IsRunning (IsTrue g.W.Wire.tells) l.job rules
          (stands_at l.core (g.W.Wire.queue l.wire) l.meter (g.W.Wire.received l.wire)
          (g.W.Wire.sum l.wire));
      parts : g.W.Wire.parts l.wire ≡ g.W.Wire.parts l.fn.wire;
    }

abbrev pub decreases-events : goal.decreases-events
decreases-events g l = steps_left (setup_of l.job) l.core.pace
