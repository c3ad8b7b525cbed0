use Rattle.std.proofs.Common.{Bool, Some, ap, ◌∙◌}
use Rattle.std.proofs.lemmas.Result.{err_from_is_err_and}
use Rattle.cx_ascii_read.specs.Reading.{sizes_at}
use Rattle.cx_ascii_read.proofs.LoopLaws.{size_goes_on, size_ends, size_fails, too_many_sizes}
use Rattle.cx_ascii_read.proofs.values.sizes_at.Goals as goal

pub returns-in_err-size : goal.returns-in_err-size
returns-in_err-size c =
    let p = err_from_is_err_and c.from_residual.result c.from_residual.ensures.1 in
    rw (p.1, p.2) (size_fails c.each.sizes c.each.counter c.each.rest.now
    (sizes_at 3 c.args.bytes.now)
    c.each-test.true c.each.invariant c.in_err-size.field-0.0 c.in_err-size.ensures)

pub returns-then-last : goal.returns-then-last
returns-then-last c =
    let h = c.in_ok-size.ensures
    ∙ ap (λ (last : Bool). Some (c.in_ok-size.size, last, c.in_ok-size.after.now))
    c.if-last.true in
    rw c.in_ok-push.ensures.ok
    (size_ends c.each.sizes c.each.counter c.each.rest.now (sizes_at 3 c.args.bytes.now)
    c.each-test.true c.each.invariant c.in_ok-size.size c.in_ok-size.after.now h)

pub each-preserved : goal.each-preserved
each-preserved c =
    let h = c.in_ok-size.ensures
    ∙ ap (λ (last : Bool). Some (c.in_ok-size.size, last, c.in_ok-size.after.now))
    c.if-last.false in
    rw c.in_ok-push.ensures.ok
    (size_goes_on c.each.sizes c.each.counter c.each.rest.now (sizes_at 3 c.args.bytes.now)
    c.each-test.true c.each.invariant c.in_ok-size.size c.in_ok-size.after.now h)

pub returns : goal.returns
returns c = too_many_sizes c.each.sizes c.each.counter c.each.rest.now (sizes_at 3 c.args.bytes.now)
    c.each-test.false c.each.invariant
