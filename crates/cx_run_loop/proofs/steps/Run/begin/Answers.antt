use Rattle.std.proofs.lemmas.Result.{err_from_is_err_and}
use Rattle.cx_run_loop.proofs.StepLaws.{started_kept, stops_start, wants_memory}
use Rattle.cx_run_loop.proofs.StopLaws.{count}
use Rattle.cx_run_loop.proofs.steps.Run.begin.Goals as goal

pub returns-in_err-keep-clause-stops : goal.returns-in_err-keep-clause-stops
returns-in_err-keep-clause-stops g c =
    let p = err_from_is_err_and c.from_residual.result c.from_residual.ensures.1 in
    rw (p.1, p.2) (stops_start _ c.args.job.now g.D.Disk.tells (g.D.Disk.view c.args.disk.now)
    (g.D.Disk.view c.begin.new.disk)
    (count (g.D.Disk.faults c.args.disk.now) (g.D.Disk.faults c.begin.new.disk))
    c.in_err-keep.field-0.0 c.in_err-keep.ensures.begun c.in_err-keep.ensures.refused
    c.in_err-keep.ensures.cause)

pub returns-clause-begins : goal.returns-clause-begins
returns-clause-begins g c = record {
  found_is = c.in_ok-keep.ensures.begun;
  started = c.in_ok-keep.ensures.started;
  lengths = c.in_ok-keep.ensures.keeper.1;
  going = c.in_ok-core.ensures.going;
  at = λ told rules queue first empty sum. record {
    begins = c.in_ok-core.ensures.can;
    begun = c.in_ok-core.ensures.begins told rules queue first empty sum;
    kept = started_kept c.args.job.now g.D.Disk.tells c.in_ok-keep.found c.in_ok-keep.keep
        c.in_ok-core.core (g.D.Disk.view c.args.disk.now) (g.D.Disk.view c.begin.new.disk)
        c.in_ok-keep.ensures.keeper.0 c.in_ok-core.ensures.key c.in_ok-core.ensures.lengths
        c.in_ok-keep.ensures.started;
  };
}

pub returns-in_err-core-clause-stops : goal.returns-in_err-core-clause-stops
returns-in_err-core-clause-stops g c =
    let p = err_from_is_err_and c.from_residual-in_err-core.result
    c.from_residual-in_err-core.ensures.1 in
    rw (p.1, p.2) (wants_memory _ c.args.job.now g.D.Disk.tells (g.D.Disk.view c.args.disk.now)
    (g.D.Disk.view c.begin.new.disk)
    (count (g.D.Disk.faults c.args.disk.now) (g.D.Disk.faults c.begin.new.disk))
    c.in_err-core.field-0.0 (c.in_err-core.ensures.stops 0 0))

pub returns-clause-can : goal.returns-clause-can
returns-clause-can g c = c.in_ok-core.ensures.state

pub returns-clause-lengths : goal.returns-clause-lengths
returns-clause-lengths g c = c.in_ok-core.ensures.lengths
