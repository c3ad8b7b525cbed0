use Rattle.std.proofs.Common.{map}
use Rattle.std.proofs.lemmas.Result.{err_from_is_err_and}
use Rattle.cx_job.proofs.ReadyLaws.{unsteered, steps_made, each_later}
use Rattle.cx_job.proofs.making.steps_and.Goals as goal

pub returns-in_err-steps-clause-made : goal.returns-in_err-steps-clause-made
returns-in_err-steps-clause-made c =
    let p = err_from_is_err_and c.from_residual.result c.from_residual.ensures.1 in
    rw (p.1, p.2)
    (unsteered (map (λ s. s.now) c.args.specs.now) c.args.schedules.now c.args.bound.now
    c.args.values.now c.args.lines.now c.args.name.now c.requires.named
    c.in_err-steps.field-0.0 c.in_err-steps.ensures)

pub plan_and-requires : goal.plan_and-requires
plan_and-requires c = record {
  few = c.requires.few;
  read = c.requires.read;
  fit = c.requires.fit;
  as_many = c.requires.as_many;
  later = each_later (map (λ s. s.now) c.args.specs.now) c.args.schedules.now c.args.bound.now
      c.args.values.now c.args.lines.now c.args.name.now c.requires.named c.in_ok-steps.steps
      c.in_ok-steps.ensures c.requires.later;
}

pub returns-clause-made : goal.returns-clause-made
returns-clause-made c =
    steps_made (map (λ s. s.now) c.args.specs.now) c.args.schedules.now c.args.bound.now
    c.args.values.now c.args.lines.now c.args.name.now c.requires.named
    c.in_ok-steps.steps c.plan_and.result c.in_ok-steps.ensures c.plan_and.ensures.made
