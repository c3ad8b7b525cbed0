use Rattle.std.proofs.Common.{◌≤◌, ℕ, arith, refl, sym, ◌∙◌}
use Rattle.std.proofs.lemmas.Result.{err_from_is_err_and}
use Rattle.std.specs.Prelude.{Err}
use Rattle.cx_plan.specs.Setups.{setup_of}
use Rattle.cx_core.specs.Starts.{begins_in}
use Rattle.cx_run_loop.specs.Advances.{place_of, run_state}
use Rattle.cx_run_loop.specs.UnderWay.{runs}
use Rattle.cx_run_loop.proofs.AdvanceLaws.{keeps_none, turn_advances, turn_moments}
use Rattle.cx_run_loop.proofs.StopLaws.{count, goes_on, stopped_first, stopped_after}
use Rattle.cx_run_loop.proofs.TurnLaws.{behind, is_save}
use Rattle.cx_run_loop.proofs.TurnWaits.{holds_at, turn_waits}
use Rattle.cx_run_loop.proofs.WaitMore.{driven_below, picks_waiting}
use Rattle.cx_run_loop.proofs.WithinLaws.{driven_within}
use Rattle.cx_run_loop.proofs.turn.turn.Goals as goal

pub keep_event-requires-clause-behind : goal.keep_event-requires-clause-behind
keep_event-requires-clause-behind g c =
    let turn = c.in_ok-event.ensures.turn in
    behind _ c.args.keep.now
    (place_of g.D.Disk g.W.Wire c.args.job.now _
    (run_state (runs c.args.keep.now c.args.core.now) c.args.disk.now c.args.wire.now
    c.args.meter.now))
    (place_of g.D.Disk g.W.Wire c.args.job.now _
    (run_state (runs c.args.keep.now c.step.new.core) c.args.disk.now c.step.new.wire
    c.step.new.meter))
    c.in_ok-event.event c.requires.able.going
    (λ b begins first at. (turn.k, turn.does b begins first at))

pub returns-clause-advances : goal.returns-clause-advances
returns-clause-advances g c =
    turn_advances g.D.Disk g.W.Wire c.args.job.now _ g.T.Turns
    (c.drive_laws.ensures g.W.Wire.tells _)
    (run_state (runs c.args.keep.now c.args.core.now) c.args.disk.now c.args.wire.now
    c.args.meter.now)
    (run_state (runs c.keep_event.new.keep c.step.new.core) c.keep_event.new.disk c.step.new.wire
    c.step.new.meter)
    c.args.turns.now c.step.new.turns c.in_ok-event.event c.requires.able c.requires.outcome
    c.in_ok-event.ensures.turn c.came_of.result c.came_of.ensures c.in_ok-keep_event.ensures.keeps
    c.in_ok-keep_event.ensures.kept

pub returns-in_err-event-clause-keeps : goal.returns-in_err-event-clause-keeps
returns-in_err-event-clause-keeps g c =
    let none = keeps_none g.D.Disk g.W.Wire c.args.job.now _
    (c.drive_laws.ensures g.W.Wire.tells _)
    (run_state (runs c.args.keep.now c.args.core.now) c.args.disk.now c.args.wire.now
    c.args.meter.now) c.requires.able in
    record {
      moments = none.moments;
      parts = c.in_err-event.ensures.parts;
      mounted = none.mounted;
      files = none.files;
      folders = refl;
      points = c.in_err-event.ensures.points;
      values = c.in_err-event.ensures.values;
      within = driven_within _ (place_of g.D.Disk g.W.Wire c.args.job.now _
          (run_state (runs c.args.keep.now c.args.core.now) c.args.disk.now c.args.wire.now
          c.args.meter.now)) _ c.in_err-event.ensures.within;
    }

pub returns-in_err-keep_event-clause-keeps : goal.returns-in_err-keep_event-clause-keeps
returns-in_err-keep_event-clause-keeps g c = record {
  moments = turn_moments g.D.Disk g.W.Wire c.args.job.now _ g.T.Turns
      (c.drive_laws.ensures g.W.Wire.tells _)
      (run_state (runs c.args.keep.now c.args.core.now) c.args.disk.now c.args.wire.now
      c.args.meter.now)
      (run_state (runs c.keep_event.new.keep c.step.new.core) c.keep_event.new.disk
      c.step.new.wire c.step.new.meter)
      c.args.turns.now c.step.new.turns c.in_ok-event.event c.requires.able c.requires.outcome
      c.in_ok-event.ensures.turn c.keep_event.new.disk c.in_err-keep_event.ensures.moments;
  parts = c.in_ok-event.ensures.parts;
  mounted = c.in_err-keep_event.ensures.mounted;
  files = c.in_err-keep_event.ensures.files;
  folders = c.in_err-keep_event.ensures.folders;
  points = c.in_ok-event.ensures.points;
  values = c.in_ok-event.ensures.values;
  within = driven_within _ (place_of g.D.Disk g.W.Wire c.args.job.now _
      (run_state (runs c.args.keep.now c.args.core.now) c.args.disk.now c.args.wire.now
      c.args.meter.now)) _ c.in_ok-event.ensures.within;
}

pub returns-clause-keeps : goal.returns-clause-keeps
returns-clause-keeps g c = record {
  moments = turn_moments g.D.Disk g.W.Wire c.args.job.now _ g.T.Turns
      (c.drive_laws.ensures g.W.Wire.tells _)
      (run_state (runs c.args.keep.now c.args.core.now) c.args.disk.now c.args.wire.now
      c.args.meter.now)
      (run_state (runs c.keep_event.new.keep c.step.new.core) c.keep_event.new.disk
      c.step.new.wire c.step.new.meter)
      c.args.turns.now c.step.new.turns c.in_ok-event.event c.requires.able c.requires.outcome
      c.in_ok-event.ensures.turn c.keep_event.new.disk c.in_ok-keep_event.ensures.moments;
  parts = c.in_ok-event.ensures.parts;
  mounted = c.in_ok-keep_event.ensures.mounted;
  files = c.in_ok-keep_event.ensures.files;
  folders = c.in_ok-keep_event.ensures.folders;
  points = c.in_ok-event.ensures.points;
  values = c.in_ok-event.ensures.values;
  within = driven_within _ (place_of g.D.Disk g.W.Wire c.args.job.now _
      (run_state (runs c.args.keep.now c.args.core.now) c.args.disk.now c.args.wire.now
      c.args.meter.now)) _ c.in_ok-event.ensures.within;
}

pub returns-in_err-event-clause-stops : goal.returns-in_err-event-clause-stops
returns-in_err-event-clause-stops g c =
    let p = err_from_is_err_and c.from_residual.result c.from_residual.ensures.1 in
    let d : ℕ = g.D.Disk.faults c.args.disk.now in
    rw (p.1, p.2) (stopped_first _ _ (count d d)
    (count (g.W.Wire.faults c.args.wire.now) (g.W.Wire.faults c.step.new.wire)) (count d d)
    (count (g.W.Wire.faults c.args.wire.now) (g.W.Wire.faults c.step.new.wire))
    c.in_err-event.field-0.0 refl (omega arith) refl (omega arith) (c.in_err-event.ensures.stops d))

pub returns-in_err-keep_event-clause-stops : goal.returns-in_err-keep_event-clause-stops
returns-in_err-keep_event-clause-stops g c =
    let p = err_from_is_err_and c.from_residual-in_err-keep_event.result
    c.from_residual-in_err-keep_event.ensures.1 in
    let a : ℕ = g.D.Disk.faults c.args.disk.now in
    let b : ℕ = g.D.Disk.faults c.keep_event.new.disk in
    let v : ℕ = g.W.Wire.faults c.args.wire.now in
    let w : ℕ = g.W.Wire.faults c.step.new.wire in
    let later : v ≤ w = (c.in_ok-event.ensures.stops 0).wire_later in
    rw (p.1, p.2) (stopped_after _ (count a b) (count w w) (count a b) (count v w)
    (Err c.in_err-keep_event.field-0.0) (omega arith) (omega arith) (omega arith) (omega arith)
    (stopped_first _ _ (count a b) (count w w) (count a b) (count w w)
    c.in_err-keep_event.field-0.0 refl (omega arith) refl (omega arith)
    (c.in_err-keep_event.ensures.stops w)))

pub returns-clause-stops : goal.returns-clause-stops
returns-clause-stops g c =
    goes_on (count (g.D.Disk.faults c.args.disk.now) (g.D.Disk.faults c.keep_event.new.disk))
    (count (g.W.Wire.faults c.args.wire.now) (g.W.Wire.faults c.step.new.wire))
    c.came_of.result (c.in_ok-keep_event.ensures.stops 0).disk_later
    (c.in_ok-event.ensures.stops 0).wire_later

pub returns-clause-waits : goal.returns-clause-waits
returns-clause-waits g c = λ same found first x.
    let turn = c.in_ok-event.ensures.turn in
    let held = behind _ c.args.keep.now
    (place_of g.D.Disk g.W.Wire c.args.job.now _
    (run_state (runs c.args.keep.now c.args.core.now) c.args.disk.now c.args.wire.now
    c.args.meter.now))
    (place_of g.D.Disk g.W.Wire c.args.job.now _
    (run_state (runs c.args.keep.now c.step.new.core) c.args.disk.now c.step.new.wire
    c.step.new.meter))
    c.in_ok-event.event c.requires.able.going
    (λ b begins first at. (turn.k, turn.does b begins first at)) in
    turn_waits _ (c.drive_laws.ensures g.W.Wire.tells _) (c.run_continues.ensures _)
    (place_of g.D.Disk g.W.Wire c.args.job.now _
    (run_state (runs c.args.keep.now c.args.core.now) c.args.disk.now c.args.wire.now
    c.args.meter.now))
    (place_of g.D.Disk g.W.Wire c.args.job.now _
    (run_state (runs c.keep_event.new.keep c.step.new.core) c.keep_event.new.disk c.step.new.wire
    c.step.new.meter))
    c.in_ok-event.event c.requires.outcome c.requires.able.going.kept.key
    (λ b begins first at. (turn.k, turn.does b begins first at))
    (λ d saved. (holds_at _ _ _ _ _ _ held d saved).state) found first x
    (c.cores_wait.ensures g.W.Wire.tells _ (begins_in (setup_of c.args.job.now) found) x.begins)
    (picks_waiting g.T.Turns c.args.job.now.balance c.args.core.now c.args.turns.now turn.k
    c.step.new.turns same turn.picked)
    c.in_ok-keep_event.ensures.keeps c.came_of.result c.came_of.ensures

pub returns-clause-holds : goal.returns-clause-holds
returns-clause-holds g c = λ saved.
    let turn = c.in_ok-event.ensures.turn in
    let held = behind _ c.args.keep.now
    (place_of g.D.Disk g.W.Wire c.args.job.now _
    (run_state (runs c.args.keep.now c.args.core.now) c.args.disk.now c.args.wire.now
    c.args.meter.now))
    (place_of g.D.Disk g.W.Wire c.args.job.now _
    (run_state (runs c.args.keep.now c.step.new.core) c.args.disk.now c.step.new.wire
    c.step.new.meter))
    c.in_ok-event.event c.requires.able.going
    (λ b begins first at. (turn.k, turn.does b begins first at)) in
    let save = is_save c.in_ok-event.event (sym c.came_of.ensures ∙ saved) in
    holds_at _ _ _ _ _ _ held save.0 save.1

pub returns-in_err-event-clause-below : goal.returns-in_err-event-clause-below
returns-in_err-event-clause-below g c = λ same.
    driven_below _
    (place_of g.D.Disk g.W.Wire c.args.job.now _
    (run_state (runs c.args.keep.now c.args.core.now) c.args.disk.now c.args.wire.now
    c.args.meter.now)) _
    (c.in_err-event.ensures.below same)

pub returns-in_err-keep_event-clause-below : goal.returns-in_err-keep_event-clause-below
returns-in_err-keep_event-clause-below g c = λ same.
    driven_below _
    (place_of g.D.Disk g.W.Wire c.args.job.now _
    (run_state (runs c.args.keep.now c.args.core.now) c.args.disk.now c.args.wire.now
    c.args.meter.now)) _
    (c.in_ok-event.ensures.below same)

pub returns-clause-below : goal.returns-clause-below
returns-clause-below g c = λ same.
    driven_below _
    (place_of g.D.Disk g.W.Wire c.args.job.now _
    (run_state (runs c.args.keep.now c.args.core.now) c.args.disk.now c.args.wire.now
    c.args.meter.now)) _
    (c.in_ok-event.ensures.below same)
