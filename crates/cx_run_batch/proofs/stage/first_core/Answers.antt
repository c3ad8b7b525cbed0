use Rattle.cx_plan.specs.Setups.{setup_of}
use Rattle.cx_run_loop.proofs.CoresBegin.{few_iterations}
use Rattle.cx_run_loop.proofs.CoresOver.{some_begins}
use Rattle.cx_run_batch.proofs.stage.first_core.Goals as goal

pub next_after-next-requires : goal.next_after-next-requires
next_after-next-requires g c = record {
  few = few_iterations c.args.job.now c.args.found c.requires.served.ready.whole
      (some_begins (setup_of c.args.job.now) c.args.found c.requires.can);
}
