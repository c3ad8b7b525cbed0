use Rattle.std.proofs.Common.{map, Ok, Err}
use Rattle.std.proofs.lemmas.Result.{err_from_is_err_and}
use Rattle.cx_scope.specs.Closures.{sight_in}
use Rattle.cx_job.proofs.ReadyLaws.{matches_of}
use Rattle.cx_job.proofs.stages.match_items.Goals as goal

pub returns-clause-items : goal.returns-clause-items
returns-clause-items c =
    matches_of c.args.bound.now c.args.values.now (map (λ s. s.now) c.args.specs.now)
    c.args.ordered.now (sight_in c.in_ok-scope.scope) c.args.run c.replace-items.result
    c.in_ok-scope.ensures.tells c.requires.run c.replace-items.ensures.value
    (Ok c.in_ok-matched_items.field-0) c.in_ok-matched_items.ensures

pub returns-in_err-matched_items-clause-items : goal.returns-in_err-matched_items-clause-items
returns-in_err-matched_items-clause-items c =
    let p = err_from_is_err_and c.from_residual-in_err-matched_items.result
    c.from_residual-in_err-matched_items.ensures.1 in
    rw (p.1, p.2)
    (matches_of c.args.bound.now c.args.values.now (map (λ s. s.now) c.args.specs.now)
    c.args.ordered.now (sight_in c.in_ok-scope.scope) c.args.run c.replace-items.result
    c.in_ok-scope.ensures.tells c.requires.run c.replace-items.ensures.value
    (Err c.in_err-matched_items.field-0.0) c.in_err-matched_items.ensures)
