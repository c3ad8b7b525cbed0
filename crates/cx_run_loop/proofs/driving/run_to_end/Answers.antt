use Rattle.std.proofs.Common.{ℕ, arith, inl, refl, ◌∙◌, ap}
use Rattle.std.proofs.lemmas.Result.{err_from_is_err_and}
use Rattle.cx_plan.specs.declared.job.Job.{Job}
use Rattle.cx_run_loop.specs.Cores.{run_by}
use Rattle.cx_run_loop.specs.Recuts.{with_cut}
use Rattle.cx_run_loop.proofs.CoresBegin.{runs_none}
use Rattle.cx_run_loop.proofs.StopLaws.{count, memory_stops}
use Rattle.cx_run_loop.proofs.TurnLaws.{on_err_fact}
use Rattle.cx_run_loop.proofs.driving.run_to_end.Goals as goal

pub run_cores-came-requires-clause-own : goal.run_cores-came-requires-clause-own
run_cores-came-requires-clause-own g c = c.in_ok-own.ensures

pub returns-in_err-own-clause-runs : goal.returns-in_err-own-clause-runs
returns-in_err-own-clause-runs g c =
    runs_none g.D.Disk g.W.Wire (run_by c.args.job.now _ _ c.args.found) c.args.run
    c.args.disk.now c.args.wire.now c.args.meter.now c.requires.able

pub returns-in_err-own-clause-picked : goal.returns-in_err-own-clause-picked
returns-in_err-own-clause-picked g c = on_err_fact _ c.from_residual.result (inl refl)

pub returns-clause-job : goal.returns-clause-job
returns-clause-job g c =
    ap (λ (j : Job). with_cut j c.in_ok-own.own) c.run_cores-came.ensures.job
    ∙ ap (with_cut c.args.job.now) c.in_ok-own.ensures

pub returns-in_err-own-clause-stops : goal.returns-in_err-own-clause-stops
returns-in_err-own-clause-stops g c =
    let p = err_from_is_err_and c.from_residual.result c.from_residual.ensures.1 in
    let a : ℕ = g.D.Disk.faults c.args.disk.now in
    let v : ℕ = g.W.Wire.faults c.args.wire.now in
    rw (p.1, p.2) (memory_stops _ (count a a) (count v v) (omega arith) (omega arith))
