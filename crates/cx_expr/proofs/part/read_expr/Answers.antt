use Rattle.std.proofs.Common.{◌≤◌, ◌-◌, length, drop, arith, Ok, Err}
use Rattle.cx_text.specs.Reading.{Gives}
use Rattle.cx_expr.specs.Exprs.{expression}
use Rattle.cx_expr.proofs.ExprLaws.{AfterExpr, expression_part, after_expr}
use Rattle.cx_text.proofs.RuleLaws.{Good}
use Rattle.cx_expr.proofs.PartLaws.{answers_from, answers_from_only, spelled_only, left_fits, given_ok, given_err}
use Rattle.cx_expr.proofs.OpenLaws.{Open, at_most_open}
use Rattle.cx_expr.proofs.OpenExprs.{expr_open}
use Rattle.cx_expr.proofs.part.read_expr.Goals as goal

opened : Open expression
opened = at_most_open 1024 (expr_open 32 32)

good : Good expression AfterExpr
good = expression_part.good

pub overflow_sub-result : goal.overflow_sub-result
overflow_sub-result c =
    let given : Gives (λ x. x) c.expression.result c.expression.new.reader.rest.now
    (expression.reads (drop c.args.at c.as_slice-tokens.result.now)) =
    rw (← c.split_at.ensures.back, ← c.new-reader.ensures) c.expression.ensures in
    left_fits expression.reads expression.derives AfterExpr good.law c.as_slice-tokens.result.now
    c.args.at c.in-Ok.e c.expression.new.reader.rest.now
    (given_ok _ c.expression.result c.expression.new.reader.rest.now c.in-Ok.e c.in-Ok.is given)

pub returns-in-Ok-clause-answers : goal.returns-in-Ok-clause-answers
returns-in-Ok-clause-answers c =
    let ts = c.as_slice-tokens.result.now in
    let rest = c.expression.new.reader.rest.now in
    let given : Gives (λ x. x) c.expression.result rest (expression.reads (drop c.args.at ts)) =
    rw (← c.split_at.ensures.back, ← c.new-reader.ensures) c.expression.ensures in
    let read = given_ok _ c.expression.result rest c.in-Ok.e c.in-Ok.is given in
    let fits : length rest ≤ length ts =
    left_fits expression.reads expression.derives AfterExpr good.law ts c.args.at c.in-Ok.e rest
    read in
    let within : c.args.at ≤ length ts = rw c.as_slice-tokens.ensures c.requires in
    rw (← c.as_slice-tokens.ensures)
    (answers_from expression.reads expression.derives AfterExpr good.law after_expr ts c.args.at
    within (Ok (c.in-Ok.e, length ts - length rest)) (rest, read, omega (arith, fits)))

pub returns-in-Err-clause-answers : goal.returns-in-Err-clause-answers
returns-in-Err-clause-answers c =
    let ts = c.as_slice-tokens.result.now in
    let rest = c.expression.new.reader.rest.now in
    let given : Gives (λ x. x) c.expression.result rest (expression.reads (drop c.args.at ts)) =
    rw (← c.split_at.ensures.back, ← c.new-reader.ensures) c.expression.ensures in
    let within : c.args.at ≤ length ts = rw c.as_slice-tokens.ensures c.requires in
    rw (← c.as_slice-tokens.ensures)
    (answers_from expression.reads expression.derives AfterExpr good.law after_expr ts c.args.at
    within (Err c.fault.result) (
      c.in-Err.stop,
      rest,
      given_err _ c.expression.result rest c.in-Err.stop c.in-Err.is given,
      c.fault.ensures,
    ))

pub returns-in-Ok-clause-only : goal.returns-in-Ok-clause-only
returns-in-Ok-clause-only c =
    let ts = c.as_slice-tokens.result.now in
    let rest = c.expression.new.reader.rest.now in
    let given : Gives (λ x. x) c.expression.result rest (expression.reads (drop c.args.at ts)) =
    rw (← c.split_at.ensures.back, ← c.new-reader.ensures) c.expression.ensures in
    let read = given_ok _ c.expression.result rest c.in-Ok.e c.in-Ok.is given in
    let fits : length rest ≤ length ts =
    left_fits expression.reads expression.derives AfterExpr good.law ts c.args.at c.in-Ok.e rest
    read in
    let within : c.args.at ≤ length ts = rw c.as_slice-tokens.ensures c.requires in
    rw (← c.as_slice-tokens.ensures)
    (spelled_only expression opened ts c.args.at (Ok (c.in-Ok.e, length ts - length rest))
    (answers_from_only expression.reads expression.derives AfterExpr good.law ts c.args.at
    within (Ok (c.in-Ok.e, length ts - length rest)) (rest, read, omega (arith, fits))))

pub returns-in-Err-clause-only : goal.returns-in-Err-clause-only
returns-in-Err-clause-only c =
    let ts = c.as_slice-tokens.result.now in
    let rest = c.expression.new.reader.rest.now in
    let given : Gives (λ x. x) c.expression.result rest (expression.reads (drop c.args.at ts)) =
    rw (← c.split_at.ensures.back, ← c.new-reader.ensures) c.expression.ensures in
    let within : c.args.at ≤ length ts = rw c.as_slice-tokens.ensures c.requires in
    rw (← c.as_slice-tokens.ensures)
    (spelled_only expression opened ts c.args.at (Err c.fault.result)
    (answers_from_only expression.reads expression.derives AfterExpr good.law ts c.args.at
    within (Err c.fault.result) (
      c.in-Err.stop,
      rest,
      given_err _ c.expression.result rest c.in-Err.stop c.in-Err.is given,
      c.fault.ensures,
    )))
