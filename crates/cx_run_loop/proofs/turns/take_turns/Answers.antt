use Rattle.std.proofs.Common.{◌≤◌, arith, refl, ◌∙◌}
use Rattle.std.specs.Prelude.{IsTrue}
use Rattle.cx_core.specs.Steps.{stands_at}
use Rattle.cx_run_loop.specs.Advances.{place_of, run_state}
use Rattle.cx_run_loop.specs.UnderWay.{runs}
use Rattle.cx_run_loop.proofs.AdvanceLaws.{gone_all, gone_last, gone_more, gone_none, gone_stop, keeps_more}
use Rattle.cx_run_loop.proofs.StopLaws.{count, goes_on}
use Rattle.cx_run_loop.proofs.StartLaws.{some_before}
use Rattle.cx_run_loop.proofs.TurnLaws.{on_err_fact}
use Rattle.cx_run_loop.proofs.WaitMore.{below_more, below_there, driven_below, more_saves_not, waits_more}
use Rattle.cx_run_loop.proofs.turns.take_turns.Goals as goal

pub turns-init : goal.turns-init
turns-init g c =
    let before = some_before g.W.Wire.tells c.args.job.now _
    (stands_at c.args.core.now (g.W.Wire.queue c.args.wire.now) c.args.meter.now
    (g.W.Wire.received c.args.wire.now) (g.W.Wire.sum c.args.wire.now))
    c.core_stands.ensures c.requires.able.going.running c.requires.outcome in
    record {
      gone = gone_none g.D.Disk g.W.Wire c.args.job.now _ g.T.Turns
          (c.drive_laws.ensures g.W.Wire.tells _)
          (run_state (runs c.args.keep.now c.args.core.now) c.args.disk.now c.args.wire.now
          c.args.meter.now) c.args.turns.now c.requires.able c.requires.outcome
          (driven_below _
          (place_of g.D.Disk g.W.Wire c.args.job.now _
          (run_state (runs c.args.keep.now c.args.core.now) c.args.disk.now c.args.wire.now
          c.args.meter.now)) _
          (below_there (IsTrue g.W.Wire.tells) c.args.job.now _
          (c.cores_wait.ensures g.W.Wire.tells _) (stands_at c.args.core.now
          (g.W.Wire.queue c.args.wire.now) c.args.meter.now (g.W.Wire.received c.args.wire.now)
          (g.W.Wire.sum c.args.wire.now)) before.0 before.2));
      begun = refl;
      disk_later = omega arith;
      wire_later = omega arith;
    }

pub turns-preserved : goal.turns-preserved
turns-preserved g c =
    let a : g.D.Disk.faults c.args.disk.now ≤ g.D.Disk.faults c.turns.disk =
    c.turns.invariant.disk_later in
    let b : g.D.Disk.faults c.turns.disk ≤ g.D.Disk.faults c.turn.new.disk =
    c.in_ok-stop.ensures.stops.disk_later in
    let e : g.W.Wire.faults c.args.wire.now ≤ g.W.Wire.faults c.turns.wire =
    c.turns.invariant.wire_later in
    let f : g.W.Wire.faults c.turns.wire ≤ g.W.Wire.faults c.turn.new.wire =
    c.in_ok-stop.ensures.stops.wire_later in
    record {
      gone = gone_more g.D.Disk g.W.Wire c.args.job.now _ g.T.Turns c.turns.counter
          (run_state (runs c.args.keep.now c.args.core.now) c.args.disk.now c.args.wire.now
          c.args.meter.now)
          (run_state (runs c.turns.keep c.turns.core) c.turns.disk c.turns.wire c.turns.meter)
          (run_state (runs c.turn.new.keep c.turn.new.core) c.turn.new.disk c.turn.new.wire
          c.turn.new.meter)
          c.args.turns.now c.turns.turns c.turn.new.turns c.turns.invariant.gone _
          (omega arith) c.in_ok-stop.stop c.in-More.is
          c.in_ok-stop.ensures.advances c.in_ok-stop.ensures.keeps
          c.in_ok-stop.ensures.waits c.in_ok-stop.ensures.below;
      begun = c.in_ok-stop.ensures.begun ∙ c.turns.invariant.begun;
      disk_later = omega arith;
      wire_later = omega arith;
    }

pub returns-in_err-stop-clause-keeps : goal.returns-in_err-stop-clause-keeps
returns-in_err-stop-clause-keeps g c =
    keeps_more g.D.Disk g.W.Wire c.args.job.now _
    (run_state (runs c.args.keep.now c.args.core.now) c.args.disk.now c.args.wire.now
    c.args.meter.now)
    (run_state (runs c.turns.keep c.turns.core) c.turns.disk c.turns.wire c.turns.meter)
    c.turn.new.disk c.turn.new.wire c.turn.new.meter c.turns.invariant.gone.moves
    c.turns.invariant.gone.keeps c.in_err-stop.ensures.keeps

pub returns-in_err-stop-clause-picked : goal.returns-in_err-stop-clause-picked
returns-in_err-stop-clause-picked g c =
    on_err_fact _ c.from_residual.result
    (gone_stop g.D.Disk g.W.Wire c.args.job.now _ g.T.Turns c.turns.counter
    (run_state (runs c.args.keep.now c.args.core.now) c.args.disk.now c.args.wire.now
    c.args.meter.now)
    (run_state (runs c.turns.keep c.turns.core) c.turns.disk c.turns.wire c.turns.meter)
    (run_state (runs c.turn.new.keep c.turn.new.core) c.turn.new.disk c.turn.new.wire
    c.turn.new.meter)
    c.args.turns.now c.turns.turns c.turn.new.turns c.turns.invariant.gone
    c.in_err-stop.ensures.picked.0 c.in_err-stop.ensures.picked.1)

pub returns-in_default-clause-advances : goal.returns-in_default-clause-advances
returns-in_default-clause-advances g c =
    gone_last g.D.Disk g.W.Wire c.args.job.now _ g.T.Turns c.turns.counter
    (run_state (runs c.args.keep.now c.args.core.now) c.args.disk.now c.args.wire.now
    c.args.meter.now)
    (run_state (runs c.turns.keep c.turns.core) c.turns.disk c.turns.wire c.turns.meter)
    (run_state (runs c.turn.new.keep c.turn.new.core) c.turn.new.disk c.turn.new.wire
    c.turn.new.meter)
    c.args.turns.now c.turns.turns c.turn.new.turns c.turns.invariant.gone c.args.most
    (omega arith) c.in_ok-stop.stop c.in_default.not-More
    c.in_ok-stop.ensures.advances

pub returns-in_default-clause-keeps : goal.returns-in_default-clause-keeps
returns-in_default-clause-keeps g c =
    keeps_more g.D.Disk g.W.Wire c.args.job.now _
    (run_state (runs c.args.keep.now c.args.core.now) c.args.disk.now c.args.wire.now
    c.args.meter.now)
    (run_state (runs c.turns.keep c.turns.core) c.turns.disk c.turns.wire c.turns.meter)
    c.turn.new.disk c.turn.new.wire c.turn.new.meter c.turns.invariant.gone.moves
    c.turns.invariant.gone.keeps c.in_ok-stop.ensures.keeps

pub returns-in_default-clause-begun : goal.returns-in_default-clause-begun
returns-in_default-clause-begun g c =
    c.in_ok-stop.ensures.begun ∙ c.turns.invariant.begun

pub returns-in_default-clause-stops : goal.returns-in_default-clause-stops
returns-in_default-clause-stops g c =
    let a : g.D.Disk.faults c.args.disk.now ≤ g.D.Disk.faults c.turns.disk =
    c.turns.invariant.disk_later in
    let b : g.D.Disk.faults c.turns.disk ≤ g.D.Disk.faults c.turn.new.disk =
    c.in_ok-stop.ensures.stops.disk_later in
    let e : g.W.Wire.faults c.args.wire.now ≤ g.W.Wire.faults c.turns.wire =
    c.turns.invariant.wire_later in
    let f : g.W.Wire.faults c.turns.wire ≤ g.W.Wire.faults c.turn.new.wire =
    c.in_ok-stop.ensures.stops.wire_later in
    goes_on (count (g.D.Disk.faults c.args.disk.now) (g.D.Disk.faults c.turn.new.disk))
    (count (g.W.Wire.faults c.args.wire.now) (g.W.Wire.faults c.turn.new.wire)) _ (omega arith)
    (omega arith)

pub returns-clause-advances : goal.returns-clause-advances
returns-clause-advances g c =
    gone_all g.D.Disk g.W.Wire c.args.job.now _ g.T.Turns c.turns.counter c.args.most
    (run_state (runs c.args.keep.now c.args.core.now) c.args.disk.now c.args.wire.now
    c.args.meter.now)
    (run_state (runs c.turns.keep c.turns.core) c.turns.disk c.turns.wire c.turns.meter)
    c.args.turns.now c.turns.turns c.turns.invariant.gone (omega arith) c.requires.some

pub returns-in_default-clause-waits : goal.returns-in_default-clause-waits
returns-in_default-clause-waits g c = λ same.
    waits_more _
    (place_of g.D.Disk g.W.Wire c.args.job.now _
    (run_state (runs c.args.keep.now c.args.core.now) c.args.disk.now c.args.wire.now
    c.args.meter.now))
    (place_of g.D.Disk g.W.Wire c.args.job.now _
    (run_state (runs c.turns.keep c.turns.core) c.turns.disk c.turns.wire c.turns.meter))
    (place_of g.D.Disk g.W.Wire c.args.job.now _
    (run_state (runs c.turn.new.keep c.turn.new.core) c.turn.new.disk c.turn.new.wire
    c.turn.new.meter))
    c.in_ok-stop.stop (c.turns.invariant.gone.waits same) (c.in_ok-stop.ensures.waits same)

pub returns-in_default-clause-below : goal.returns-in_default-clause-below
returns-in_default-clause-below g c = λ same.
    below_more _
    (place_of g.D.Disk g.W.Wire c.args.job.now _
    (run_state (runs c.args.keep.now c.args.core.now) c.args.disk.now c.args.wire.now
    c.args.meter.now))
    (place_of g.D.Disk g.W.Wire c.args.job.now _
    (run_state (runs c.turns.keep c.turns.core) c.turns.disk c.turns.wire c.turns.meter))
    _ (c.turns.invariant.gone.waits same) (c.in_ok-stop.ensures.below same)

pub returns-in_default-clause-holds : goal.returns-in_default-clause-holds
returns-in_default-clause-holds g c = c.in_ok-stop.ensures.holds

pub returns-in_err-stop-clause-below : goal.returns-in_err-stop-clause-below
returns-in_err-stop-clause-below g c = λ same.
    below_more _
    (place_of g.D.Disk g.W.Wire c.args.job.now _
    (run_state (runs c.args.keep.now c.args.core.now) c.args.disk.now c.args.wire.now
    c.args.meter.now))
    (place_of g.D.Disk g.W.Wire c.args.job.now _
    (run_state (runs c.turns.keep c.turns.core) c.turns.disk c.turns.wire c.turns.meter))
    _ (c.turns.invariant.gone.waits same) (c.in_err-stop.ensures.below same)

pub returns-clause-waits : goal.returns-clause-waits
returns-clause-waits g c = c.turns.invariant.gone.waits

pub returns-clause-below : goal.returns-clause-below
returns-clause-below g c = c.turns.invariant.gone.below

pub returns-clause-holds : goal.returns-clause-holds
returns-clause-holds g c = λ saved. absurd (more_saves_not saved)
