use Rattle.std.proofs.Common.{ap, refl, arith, inl}
use Rattle.std.proofs.lemmas.Result.{err_from_is_err_and}
use Rattle.cx_disk.specs.Disk.{Folders}
use Rattle.cx_plan.specs.Setups.{setup_of}
use Rattle.cx_run_loop.specs.Drives.{driven_by}
use Rattle.cx_run_loop.proofs.BegunLaws.{begun_at, can_go, drives_on, lends_on, stops_on, turns_on}
use Rattle.cx_run_loop.proofs.CoresOver.{some_begins}
use Rattle.cx_run_loop.proofs.DriveLaws.{refused}
use Rattle.cx_run_loop.proofs.TurnLaws.{on_err_fact}
use Rattle.cx_run_loop.proofs.driving.drive.Goals as goal

pub run_to_end-requires-clause-able : goal.run_to_end-requires-clause-able
run_to_end-requires-clause-able g c = record {
  parts = c.requires.parts;
  mounted = c.in_ok-run.ensures.mounted;
  files = c.in_ok-run.ensures.files;
  names = ap (λ (f : Folders). f.names) c.in_ok-run.ensures.folders;
  going = can_go g.D.Disk g.W.Wire c.args.job.now _ c.args.disk.now c.begin.new.disk
      c.args.wire.now c.args.meter.now c.in_ok-run.found c.in_ok-run.run'
      c.in_ok-run.ensures.begins c.requires.empty (g.met.W.Wire.sum_fits c.args.wire.now);
}

pub run_to_end-requires-clause-begun : goal.run_to_end-requires-clause-begun
run_to_end-requires-clause-begun g c =
    begun_at g.D.Disk g.W.Wire c.args.job.now _ c.args.disk.now c.begin.new.disk
    c.args.wire.now c.args.meter.now c.in_ok-run.found c.in_ok-run.run'
    c.in_ok-run.ensures.begins c.requires.empty (g.met.W.Wire.sum_fits c.args.wire.now)

pub run_to_end-requires-clause-going : goal.run_to_end-requires-clause-going
run_to_end-requires-clause-going g c = c.in_ok-run.ensures.begins.going

pub run_to_end-requires-clause-holds : goal.run_to_end-requires-clause-holds
run_to_end-requires-clause-holds g c =
    some_begins (setup_of c.args.job.now) c.in_ok-run.found c.in_ok-run.ensures.can

pub run_to_end-requires-clause-lengths : goal.run_to_end-requires-clause-lengths
run_to_end-requires-clause-lengths g c = c.in_ok-run.ensures.lengths

pub returns-in_err-run-clause-drives : goal.returns-in_err-run-clause-drives
returns-in_err-run-clause-drives g c =
    let p = err_from_is_err_and c.from_residual.result c.from_residual.ensures.1 in
    rw (p.1, p.2) (refused (driven_by c.args.job.now _ _ g.D.Disk g.W.Wire c.args.disk.now
    c.begin.new.disk c.args.wire.now c.args.wire.now c.args.meter.now c.args.meter.now)
    (c.drive_laws.ensures g.W.Wire.tells _) c.in_err-run.field-0.0
    c.in_err-run.ensures.stops refl refl c.in_err-run.ensures.moments c.in_err-run.ensures.later
    (omega arith) refl)

pub returns-clause-drives : goal.returns-clause-drives
returns-clause-drives g c =
    drives_on g.D.Disk g.W.Wire c.args.job.now _ c.args.disk.now c.begin.new.disk c.args.wire.now
    c.args.meter.now c.in_ok-run.found c.in_ok-run.run' c.in_ok-run.ensures.begins
    c.requires.empty (g.met.W.Wire.sum_fits c.args.wire.now) _ c.run_to_end.new.disk
    c.run_to_end.new.wire c.run_to_end.new.meter (c.drive_laws.ensures g.W.Wire.tells _)
    (c.run_continues.ensures _) (λ t. (g.met.D.Disk.sound c.args.disk.now t).reads)
    c.run_to_end.result c.run_to_end.ensures.ends c.in_ok-run.ensures.moments
    c.run_to_end.ensures.runs c.in_ok-run.ensures.later c.run_to_end.ensures.stops

pub returns-clause-scalars : goal.returns-clause-scalars
returns-clause-scalars g c =
    lends_on g.D.Disk g.W.Wire c.args.job.now _ c.args.disk.now c.begin.new.disk c.args.wire.now
    c.args.meter.now c.in_ok-run.found c.in_ok-run.run' c.in_ok-run.ensures.begins
    c.requires.empty (g.met.W.Wire.sum_fits c.args.wire.now) _ c.run_to_end.new.disk
    c.run_to_end.new.wire c.run_to_end.new.meter (c.drive_laws.ensures g.W.Wire.tells _)
    (c.run_continues.ensures _) (λ t. (g.met.D.Disk.sound c.args.disk.now t).reads)
    c.run_to_end.result c.run_to_end.ensures.ends

pub returns-clause-turns : goal.returns-clause-turns
returns-clause-turns g c =
    turns_on g.D.Disk g.W.Wire c.args.job.now _ c.args.disk.now c.begin.new.disk
    c.args.wire.now c.args.meter.now c.in_ok-run.found c.in_ok-run.run'
    c.in_ok-run.ensures.begins c.requires.empty (g.met.W.Wire.sum_fits c.args.wire.now) _
    c.run_to_end.new.disk c.run_to_end.new.wire c.run_to_end.new.meter g.T.Turns
    c.args.turns.now c.run_to_end.new.turns c.run_to_end.result c.run_to_end.ensures.turns

pub returns-in_err-run-clause-picked : goal.returns-in_err-run-clause-picked
returns-in_err-run-clause-picked g c = on_err_fact _ c.from_residual.result (inl refl)

pub returns-clause-picked : goal.returns-clause-picked
returns-clause-picked g c =
    stops_on g.D.Disk g.W.Wire c.args.job.now _ c.args.disk.now c.begin.new.disk
    c.args.wire.now c.args.meter.now c.in_ok-run.found c.in_ok-run.run'
    c.in_ok-run.ensures.begins c.requires.empty (g.met.W.Wire.sum_fits c.args.wire.now) _
    c.run_to_end.new.disk c.run_to_end.new.wire c.run_to_end.new.meter g.T.Turns
    c.args.turns.now c.run_to_end.new.turns c.run_to_end.result c.run_to_end.ensures.picked
