use Rattle.std.proofs.Common.{◌≡◌, ◌∙◌, List, map, ap, subst}
use Rattle.cx_plan.specs.declared.job.Job.{Job}
use Rattle.cx_bind.specs.Parameters.{parameters}
use Rattle.cx_bind.specs.declared.thorns.Param.{Param}
use Rattle.cx_values.specs.declared.steering.SteerStep.{SteerStep}
use Rattle.cx_job_files.specs.Stages.{Is}
use Rattle.cx_job.specs.Jobs.{steered_job}
use Rattle.cx_job.specs.Making.{Yields, key_within}
use Rattle.cx_job.proofs.ReadyLaws.{short_params}
use Rattle.cx_job.proofs.stages.steered_within.Goals as goal

pub steered_job-requires-clause-short : goal.steered_job-requires-clause-short
steered_job-requires-clause-short c = short_params c.args.run c.args.job.items c.requires.short

pub returns : goal.returns
returns c =
    let specs = map (λ s. s.now) c.args.specs.now in
    subst (λ (job : Job). Yields (Is (key_within job)) c.within_key.result)
    (c.in_ok-job.ensures
    ∙ ap (λ (ps : List Param). steered_job specs ps c.as_slice.result.now c.args.job)
    (c.as_slice-params.ensures ∙ c.parameters.ensures)
    ∙ ap (λ (ss : List SteerStep). steered_job specs (parameters c.args.bound.now) ss c.args.job)
    c.as_slice.ensures)
    c.within_key.ensures
