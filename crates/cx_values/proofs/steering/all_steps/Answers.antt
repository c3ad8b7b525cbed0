use Rattle.std.proofs.lemmas.Result.{err_from_is_err_and}
use Rattle.cx_bind.specs.NamePlaces.{place_of}
use Rattle.cx_values.specs.declared.fault.ValueFault.TheVariants.{Memory}
use Rattle.cx_values.specs.Steering.{lines_fault, step_by}
use Rattle.cx_values.proofs.Along.{more_begun}
use Rattle.cx_values.proofs.SteerLaws.{line_passed, line_told}
use Rattle.cx_values.proofs.steering.all_steps.Goals as goal

pub returns-in_err-step-clause-told : goal.returns-in_err-step-clause-told
returns-in_err-step-clause-told c =
    let p = err_from_is_err_and c.from_residual.result c.from_residual.ensures.1 in
    let all = lines_fault c.args.params.now (place_of c.args.names.now)
    c.args.dues 0 c.args.lines.now in
    rw (p.1, p.2)
    (line_told c.args.params.now (place_of c.args.names.now) c.args.dues
    c.args.lines.now c.lines.line-index c.lines.before c.line-item.result c.lines-test.true
    c.line-item.is all c.lines.invariant.left Memory c.in_err-step.field-0.0
    c.in_err-step.ensures.told)

pub lines-preserved : goal.lines-preserved
lines-preserved c = record {
  steps = more_begun c.args.lines.now c.lines.line-index c.line-item.result
      c.lines-test.true c.line-item.is (step_by c.args.params.now (place_of c.args.names.now))
      c.lines.invariant.steps c.in_ok-step.ensures.step c.in_ok-push.ensures.ok;
  left = line_passed c.args.params.now (place_of c.args.names.now) c.args.dues
      c.args.lines.now c.lines.line-index c.lines.before c.line-item.result c.lines-test.true
      c.line-item.is
      (lines_fault c.args.params.now (place_of c.args.names.now) c.args.dues 0 c.args.lines.now)
      c.lines.invariant.left c.in_ok-step.ensures.told;
}
