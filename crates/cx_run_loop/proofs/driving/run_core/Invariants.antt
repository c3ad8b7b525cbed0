-- what was driven is driven here, and each moment so far is of the run
use Rattle.std.proofs.Common.{◌≡◌, ◌≤◌, true, map, IsTrue}
use Rattle.cx_plan.specs.Setups.{setup_of}
use Rattle.cx_core.specs.Left.{steps_left}
use Rattle.cx_run_loop.specs.Advances.{CanAdvance, Keeps, place_of, run_state, turning_of}
use Rattle.cx_run_loop.specs.Cores.{StaysBelowFrom}
use Rattle.cx_run_loop.specs.Going.{MovesOn, setting}
use Rattle.cx_run_loop.specs.Turning.{TurnsLead}
use Rattle.cx_run_loop.proofs.CoreTurns.{StillOn}
use Rattle.cx_run_loop.proofs.driving.run_core.Given as goal

abbrev pub invariant-turns : goal.invariant-turns
invariant-turns g l =
    let rules = map (λ r. (goal.Routine-dyn g (r.vtable, r.value)).rule r.value) l.routines in
    let was = run_state l.initial.run l.initial.disk l.initial.wire l.initial.meter in
    let is = run_state l.run l.disk l.wire l.meter in
    record {
      moves : MovesOn (setting g.D.Disk g.W.Wire l.job rules)
          (place_of g.D.Disk g.W.Wire l.job rules was) (place_of g.D.Disk g.W.Wire l.job rules is);
      lead : TurnsLead g.T.Turns (IsTrue g.W.Wire.tells) l.job rules
          (turning_of g.W.Wire was l.initial.turns) (turning_of g.W.Wire is l.turns);
      able : CanAdvance g.D.Disk g.W.Wire l.job rules is;
      keeps : Keeps g.D.Disk g.W.Wire l.job rules was l.disk l.wire l.meter;
      still : l.job.balance ≡ true → StillOn l.next (setting g.D.Disk g.W.Wire l.job rules)
          (place_of g.D.Disk g.W.Wire l.job rules was) (place_of g.D.Disk g.W.Wire l.job rules is);
      below : l.job.balance ≡ true → StaysBelowFrom l.next (setting g.D.Disk g.W.Wire l.job rules)
          (place_of g.D.Disk g.W.Wire l.job rules was)
          (place_of g.D.Disk g.W.Wire l.job rules is).is.now;
      begun : g.T.Turns.begun l.turns ≡ g.T.Turns.begun l.initial.turns;
      disk_later : g.D.Disk.faults l.initial.disk ≤ g.D.Disk.faults l.disk;
      wire_later : g.W.Wire.faults l.initial.wire ≤ g.W.Wire.faults l.wire;
    }

abbrev pub decreases-turns : goal.decreases-turns
decreases-turns g l = steps_left (setup_of l.job) l.run.core.pace
