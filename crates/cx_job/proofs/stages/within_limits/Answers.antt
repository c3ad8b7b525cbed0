use Rattle.std.proofs.Common.{◌≡◌, ◌∙◌, sym, ap, subst, map, None}
use Rattle.cx_plan.specs.declared.job.Job.{Job}
use Rattle.cx_bind.specs.Parameters.{parameters}
use Rattle.cx_job.specs.Jobs.{job_of, steered_job}
use Rattle.cx_job.specs.JobLimits.{item_limits, run_count}
use Rattle.cx_job.proofs.MakingLaws.{key_told}
use Rattle.cx_job.proofs.stages.within_limits.Goals as goal

pub steered_within-requires-clause-run : goal.steered_within-requires-clause-run
steered_within-requires-clause-run c =
    c.requires.run ∙ ap (λ (j : Job). run_count j.plan) (sym c.in_ok-job.ensures)

pub steered_within-requires-clause-short : goal.steered_within-requires-clause-short
steered_within-requires-clause-short c =
    subst (λ (j : Job). item_limits c.args.run j.items ≡ None) (sym c.in_ok-job.ensures)
    (rw c.as_slice.ensures at c.in_ok-check_item_limits.ensures)

pub returns : goal.returns
returns c =
    let specs = map (λ s. s.now) c.args.specs.now in
    let job = job_of c.args.bound.now c.args.values.now c.args.ordered c.args.contents.items
    c.args.contents.out_vars in
    key_told c.args.run
    (steered_job specs (parameters c.args.bound.now) c.args.steps.now job) c.steered_within.result
    (rw c.as_slice.ensures at c.in_ok-check_item_limits.ensures) c.in_ok-check_grid.ensures
    (rw c.in_ok-job.ensures at c.steered_within.ensures)
