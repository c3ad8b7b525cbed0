use Rattle.std.proofs.Common.{ap}
use Rattle.std.specs.Prelude.{Err}
use Rattle.cx_plan.specs.Setups.{setup_of}
use Rattle.cx_run_loop.specs.declared.fault.DriveFault.{DriveFault}
use Rattle.cx_run_loop.proofs.CoresOver.{some_begins}
use Rattle.cx_run_batch.proofs.BegunLaws.{job_again, only_memory}
use Rattle.cx_run_batch.proofs.stage.in_first_cut.Goals as goal

pub begin_cores-requires-clause-holds : goal.begin_cores-requires-clause-holds
begin_cores-requires-clause-holds g c =
    some_begins (setup_of c.args.job.now) c.args.found c.requires.can

pub returns-in-Ok : goal.returns-in-Ok
returns-in-Ok g c = record {
  first = record {
    job_is = c.in-Ok.ensures.job;
    cut_is = c.in-Ok.ensures.cut;
    own_is = c.requires.own;
    next_is = c.requires.next;
    begins = c.in-Ok.ensures.begins;
    ready = c.in-Ok.ensures.ready;
    fit = c.in-Ok.ensures.routines;
    waits = c.cores_wait.ensures;
  };
}

pub returns-in-Err : goal.returns-in-Err
returns-in-Err g c = record {
  first = (
    job_again c.args.job.now c.begin_cores.new.job c.args.own c.requires.own
        c.in-Err.ensures.job,
    ap (λ (fault : DriveFault). Err fault) (only_memory c.in-Err.fault c.in-Err.ensures.stops),
  );
}
