use Rattle.std.proofs.Common.{◌++◌, ◌∷◌, [], ◌∙◌, ap, ℤ, rules, w64, SFits}
use Rattle.std.proofs.lemmas.Int.{to_z-of_z}
use Rattle.std.proofs.lemmas.Result.{err_from_is_err_and}
use Rattle.cx_ascii_read.specs.Reading.{with_front, row_at}
use Rattle.cx_ascii_read.proofs.LoopLaws.{value_goes_on, value_fails, row_ends, row_end_fails}
use Rattle.cx_ascii_read.proofs.values.push_row.Goals as goal

pub returns-in_err-value : goal.returns-in_err-value
returns-in_err-value c =
    let p = err_from_is_err_and c.from_residual.result c.from_residual.ensures.1 in
    rw (p.1, p.2) (value_fails c.each.values.items c.args.more c.each.counter c.each.rest.now
    (with_front c.args.values.now.items (row_at c.args.more c.args.bytes.now))
    c.each.invariant c.each-test.true c.in_err-value.field-0.0 c.in_err-value.ensures)

pub each-preserved : goal.each-preserved
each-preserved c =
    let fits : SFits w64 c.in_ok-value.value = search rules in
    let pushed = c.in_ok-push.ensures.items
    ∙ ap (λ (x : ℤ). c.each.values.items ++ x ∷ []) (to_z-of_z w64 c.in_ok-value.value fits) in
    rw pushed (value_goes_on c.each.values.items c.args.more c.each.counter c.each.rest.now
    (with_front c.args.values.now.items (row_at c.args.more c.args.bytes.now))
    c.each.invariant c.each-test.true c.in_ok-value.value c.in_ok-value.after.now
    c.in_ok-value.ensures)

pub returns-in_err-value-2 : goal.returns-in_err-value-2
returns-in_err-value-2 c =
    let p = err_from_is_err_and c.from_residual-in_err-value-2.result
    c.from_residual-in_err-value-2.ensures.1 in
    rw (p.1, p.2) (row_end_fails c.each.values.items c.args.more c.each.counter c.each.rest.now
    (with_front c.args.values.now.items (row_at c.args.more c.args.bytes.now))
    c.each.invariant c.each-test.false c.in_err-value-2.field-0.0 c.in_err-value-2.ensures)

pub returns : goal.returns
returns c =
    let fits : SFits w64 c.in_ok-value-2.value = search rules in
    let pushed = c.in_ok-push-2.ensures.items
    ∙ ap (λ (x : ℤ). c.each.values.items ++ x ∷ []) (to_z-of_z w64 c.in_ok-value-2.value fits)
    in
    rw pushed (row_ends c.each.values.items c.args.more c.each.counter c.each.rest.now
    (with_front c.args.values.now.items (row_at c.args.more c.args.bytes.now))
    c.each.invariant c.each-test.false c.in_ok-value-2.value c.in_ok-value-2.rest.now
    c.in_ok-value-2.ensures)
