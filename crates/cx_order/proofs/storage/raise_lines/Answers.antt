use Rattle.std.proofs.Common.{◌∙◌, ◌+◌, ◌∷◌, ap, sym, drop}
use Rattle.std.proofs.Math.ListN.{drop_of_length-le}
use Rattle.std.proofs.lemmas.List.{drop_more}
use Rattle.std.proofs.lemmas.Result.{err_from_is_err_and}
use Rattle.cx_scope.specs.Closures.{sight_in}
use Rattle.cx_order.specs.declared.fault.OrderFault.TheVariants.{Memory}
use Rattle.cx_order.proofs.StorageLaws.{sofar-next, sofar-none, sofar-all, sofar-told}
use Rattle.cx_order.proofs.storage.raise_lines.Goals as goal

pub lines-preserved : goal.lines-preserved
lines-preserved c =
    let more = drop (c.lines.line-index + 1) c.args.lines.now in
    sofar-next c.args.bound.now (sight_in c.args.scope.now)
    c.args.stored.now c.lines.stored c.args.lines.now (drop c.lines.line-index c.args.lines.now)
    c.lines.invariant c.line-item.result more
    (drop_more c.args.lines.now c.lines.line-index c.line-item.result c.lines-test.true
    ∙ ap (λ l. l ∷ more) (sym c.line-item.is))
    c.raise_line.new.stored c.in_ok-raise_line.ensures.told c.in_ok-raise_line.ensures.levels

pub returns-clause-told : goal.returns-clause-told
returns-clause-told c =
    sofar-none c.args.bound.now (sight_in c.args.scope.now)
    c.args.stored.now c.lines.stored c.args.lines.now (drop c.lines.line-index c.args.lines.now)
    c.lines.invariant
    (drop_of_length-le c.args.lines.now c.lines-test.false)

pub returns-clause-levels : goal.returns-clause-levels
returns-clause-levels c =
    sofar-all c.args.bound.now (sight_in c.args.scope.now)
    c.args.stored.now c.lines.stored c.args.lines.now (drop c.lines.line-index c.args.lines.now)
    c.lines.invariant
    (drop_of_length-le c.args.lines.now c.lines-test.false)

pub returns-in_err-raise_line-clause-told : goal.returns-in_err-raise_line-clause-told
returns-in_err-raise_line-clause-told c =
    let more = drop (c.lines.line-index + 1) c.args.lines.now in
    let p = err_from_is_err_and c.from_residual.result c.from_residual.ensures.1 in
    rw (p.1, p.2)
    (sofar-told c.args.bound.now (sight_in c.args.scope.now)
    c.args.stored.now c.lines.stored c.args.lines.now (drop c.lines.line-index c.args.lines.now)
    c.lines.invariant c.line-item.result more
    (drop_more c.args.lines.now c.lines.line-index c.line-item.result c.lines-test.true
    ∙ ap (λ l. l ∷ more) (sym c.line-item.is))
    Memory c.in_err-raise_line.field-0.0 c.in_err-raise_line.ensures.told)
