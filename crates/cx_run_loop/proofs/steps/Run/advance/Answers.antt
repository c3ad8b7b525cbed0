use Rattle.std.proofs.Common.{◌≡◌, true, map, subst}
use Rattle.std.specs.Prelude.{IfOk, IsTrue, OnErr}
use Rattle.cx_run_loop.specs.Advances.{Advances, Keeps, run_state}
use Rattle.cx_core.specs.Steps.{counts}
use Rattle.cx_run_loop.specs.Going.{place_at, setting}
use Rattle.cx_run_loop.specs.Lent.{wired}
use Rattle.cx_run_loop.specs.Turning.{TurnsStop, turning}
use Rattle.cx_run_loop.specs.UnderWay.{Runs, runs}
use Rattle.cx_run_loop.specs.Waiting.{StaysBelow, WaitsOn}
use Rattle.cx_run_loop.proofs.steps.Run.advance.Goals as goal

pub take_turns-requires-clause-able : goal.take_turns-requires-clause-able
take_turns-requires-clause-able g c =
    rw c.self.view_is c.requires.able

pub returns-clause-advances : goal.returns-clause-advances
returns-clause-advances g c =
    subst (λ (r : Runs). IfOk c.take_turns.result (Advances g.D.Disk g.W.Wire g.T.Turns
    c.args.job.now
    (map (λ r. (goal.Routine-dyn g (r.vtable, r.value)).rule r.value) c.args.routines.now)
    c.args.most (run_state r c.args.disk.now c.args.wire.now c.args.meter.now)
    (run_state (runs c.take_turns.new.keep c.take_turns.new.core) c.take_turns.new.disk
    c.take_turns.new.wire c.take_turns.new.meter) c.args.turns.now c.take_turns.new.turns))
    c.self.view_is c.take_turns.ensures.advances

pub returns-clause-picked : goal.returns-clause-picked
returns-clause-picked g c =
    subst (λ (r : Runs). OnErr c.take_turns.result (TurnsStop g.T.Turns (IsTrue g.W.Wire.tells)
    c.args.job.now
    (map (λ r. (goal.Routine-dyn g (r.vtable, r.value)).rule r.value) c.args.routines.now)
    (turning r.core (wired g.W.Wire c.args.wire.now) c.args.meter.now c.args.turns.now)
    c.take_turns.new.turns)) c.self.view_is c.take_turns.ensures.picked

pub returns-clause-keeps : goal.returns-clause-keeps
returns-clause-keeps g c =
    subst (λ (r : Runs). Keeps g.D.Disk g.W.Wire c.args.job.now
    (map (λ r. (goal.Routine-dyn g (r.vtable, r.value)).rule r.value) c.args.routines.now)
    (run_state r c.args.disk.now c.args.wire.now c.args.meter.now)
    c.take_turns.new.disk c.take_turns.new.wire c.take_turns.new.meter) c.self.view_is
    c.take_turns.ensures.keeps

pub returns-clause-waits : goal.returns-clause-waits
returns-clause-waits g c =
    subst (λ (r : Runs). c.args.job.now.balance ≡ true → IfOk c.take_turns.result
    (WaitsOn (setting g.D.Disk g.W.Wire c.args.job.now
    (map (λ r. (goal.Routine-dyn g (r.vtable, r.value)).rule r.value) c.args.routines.now))
    (place_at g.D.Disk g.W.Wire r.core c.args.disk.now c.args.wire.now c.args.meter.now)
    (place_at g.D.Disk g.W.Wire c.take_turns.new.core c.take_turns.new.disk
    c.take_turns.new.wire c.take_turns.new.meter)))
    c.self.view_is c.take_turns.ensures.waits

pub returns-clause-below : goal.returns-clause-below
returns-clause-below g c =
    subst (λ (r : Runs). c.args.job.now.balance ≡ true → StaysBelow
    (setting g.D.Disk g.W.Wire c.args.job.now
    (map (λ r. (goal.Routine-dyn g (r.vtable, r.value)).rule r.value) c.args.routines.now))
    (place_at g.D.Disk g.W.Wire r.core c.args.disk.now c.args.wire.now c.args.meter.now)
    (counts c.take_turns.new.meter (g.W.Wire.received c.take_turns.new.wire)
    (g.W.Wire.sum c.take_turns.new.wire)))
    c.self.view_is c.take_turns.ensures.below
