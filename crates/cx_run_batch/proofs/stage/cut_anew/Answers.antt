use Rattle.std.proofs.Common.{◌≤◌, ◌+◌, ◌∙◌, ap, arith, inl, refl}
use Rattle.std.specs.Prelude.{Err}
use Rattle.cx_plan.specs.declared.job.Job.{Job}
use Rattle.cx_chk.specs.declared.checkpoint.Checkpoint.{Checkpoint}
use Rattle.cx_run_loop.specs.Recuts.{with_cut}
use Rattle.cx_run_loop.specs.declared.fault.DriveFault.{DriveFault}
use Rattle.cx_run_batch.proofs.BegunLaws.{only_memory}
use Rattle.cx_run_batch.proofs.SaveLaws.{can_begin, few_iterations}
use Rattle.cx_run_batch.proofs.stage.cut_anew.Goals as goal

pub overflow_add-next : goal.overflow_add-next
overflow_add-next g c =
    let few : c.saved.result.now.iteration ≤ 1000000 =
    few_iterations c.args.job.now c.args.x.next c.args.x.run.core c.saved.result.now
    c.requires.served.ready.whole.itlast_limit c.requires.anew c.saved.ensures in
    omega (arith, few)

pub cut_anew-requires-clause-state : goal.cut_anew-requires-clause-state
cut_anew-requires-clause-state g c =
    can_begin c.args.job.now c.args.x.next c.args.x.run.core c.requires.holds c.requires.anew

pub returns-in-Ok : goal.returns-in-Ok
returns-in-Ok g c = record {
  goes = inl (record {
    anew = c.requires.anew;
    job_is = c.in-Ok.ensures.job;
    own_is = refl;
    next_is = ap (λ (k : Checkpoint). k.iteration + 1) c.saved.ensures;
    begins = c.in-Ok.ensures.begins;
    waits = c.cores_wait.ensures;
  });
}

pub returns-in-Err : goal.returns-in-Err
returns-in-Err g c = record {
  goes = record {
    job_is = c.give_back.ensures.job
        ∙ ap (λ (j : Job). with_cut j c.args.x.own) c.in-Err.ensures.job;
    result_is = ap (λ (fault : DriveFault). Err fault)
        (only_memory c.in-Err.fault c.in-Err.ensures.stops);
    laws = c.give_back.ensures.laws;
  };
}
