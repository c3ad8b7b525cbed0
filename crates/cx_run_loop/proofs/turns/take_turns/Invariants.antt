-- so many events were done, after each of which the run goes on
use Rattle.std.proofs.Common.{◌≡◌, ◌≤◌, map}
use Rattle.cx_run_loop.specs.Advances.{run_state}
use Rattle.cx_run_loop.specs.UnderWay.{runs}
use Rattle.cx_run_loop.proofs.AdvanceLaws.{HasGone}
use Rattle.cx_run_loop.proofs.turns.take_turns.Given as goal

abbrev pub invariant-turns : goal.invariant-turns
invariant-turns g l = record {
  gone : HasGone g.D.Disk g.W.Wire l.job
      (map (λ r. (goal.Routine-dyn g (r.vtable, r.value)).rule r.value) l.routines) g.T.Turns
      l.counter
      (run_state (runs l.initial.keep l.initial.core) l.initial.disk l.initial.wire
      l.initial.meter)
      (run_state (runs l.keep l.core) l.disk l.wire l.meter) l.initial.turns l.turns;
  begun : g.T.Turns.begun l.turns ≡ g.T.Turns.begun l.initial.turns;
  disk_later : g.D.Disk.faults l.initial.disk ≤ g.D.Disk.faults l.disk;
  wire_later : g.W.Wire.faults l.initial.wire ≤ g.W.Wire.faults l.wire;
}
