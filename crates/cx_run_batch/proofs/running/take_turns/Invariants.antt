-- turns have been taken, and each member is still one of a job that is served
use Rattle.std.proofs.Common.{◌≡◌, map}
use Rattle.cx_run_batch.specs.Members.{AreOwnServed, Turned, left_to}
use Rattle.cx_run_batch.specs.Turns.{AreTurns, batch}
use Rattle.cx_run_batch.proofs.running.take_turns.Given as goal

abbrev pub invariant-rounds : goal.invariant-rounds
invariant-rounds g l =
    let rules = map (λ r. (goal.Routine-dyn g (r.vtable, r.value)).rule r.value) l.routines in
    let specs = map (λ r. (goal.Routine-dyn g (r.vtable, r.value)).spec_of r.value) l.routines in
    record {
      turned : Turned g.D.Disk g.W.Wire rules specs l.initial.members l.members l.initial.disks
          l.disks l.initial.wires l.wires l.initial.meter l.meter;
      served : AreOwnServed specs l.members;
      turns : AreTurns g.W.Wire g.T.Turns rules
          (batch l.initial.members l.initial.wires l.initial.meter l.initial.turns)
          (batch l.members l.wires l.meter l.turns);
      begun : g.T.Turns.begun l.turns ≡ g.T.Turns.begun l.initial.turns;
    }

abbrev pub decreases-rounds : goal.decreases-rounds
decreases-rounds g l = left_to l.members
