use Rattle.std.proofs.Common.{map}
use Rattle.std.proofs.lemmas.Result.{err_from_is_err_and}
use Rattle.cx_scope.specs.Closures.{sight_in}
use Rattle.cx_order_entries.specs.PlaceNumbers.{orders_by}
use Rattle.cx_order.specs.Meanings.{World}
use Rattle.cx_order.specs.PlanSteps.{forests_in}
use Rattle.cx_order_entries.specs.Seen.{seen_as, seen_entry}
use Rattle.cx_order.proofs.LimitLaws.{limit-items}
use Rattle.cx_order.proofs.OrderingLaws.{memory-or, placed-fault, storage-fault, entry-fault, is-plan}
use Rattle.cx_order.proofs.order_files.planned.Goals as goal

pub returns-in_err-placed-clause-fault : goal.returns-in_err-placed-clause-fault
returns-in_err-placed-clause-fault c =
    let p = err_from_is_err_and c.from_residual.result c.from_residual.ensures.1 in
    rw (p.1, p.2) (placed-fault c.args.bound.now (seen_as c.args.lines.now c.args.entries.now)
    c.in_err-placed.field-0.0 c.in_err-placed.ensures)

pub returns-in_err-storage-clause-fault : goal.returns-in_err-storage-clause-fault
returns-in_err-storage-clause-fault c =
    let p = err_from_is_err_and c.from_residual-in_err-storage.result
    c.from_residual-in_err-storage.ensures.1 in
    let counted = seen_as c.args.lines.now c.args.entries.now in
    let e = c.in_err-storage.field-0.0 in
    rw (p.1, p.2)
    (memory-or e
    (storage-fault c.args.bound.now counted (sight_in c.in_ok-scope.scope)
    (orders_by counted.entries c.in_ok-placed.placed.orders)
    c.in_ok-placed.ensures.1.0 c.in_ok-placed.ensures.1.1 c.in_ok-scope.ensures.tells e)
    c.in_err-storage.ensures.told)

pub returns-in_err-meanings-clause-fault : goal.returns-in_err-meanings-clause-fault
returns-in_err-meanings-clause-fault c =
    let p = err_from_is_err_and c.from_residual-in_err-meanings.result
    c.from_residual-in_err-meanings.ensures.1 in
    let counted = seen_as c.args.lines.now c.args.entries.now in
    let e = c.in_err-meanings.field-0.0 in
    rw (p.1, p.2)
    (memory-or e
    (entry-fault c.args.bound.now counted (sight_in c.in_ok-scope.scope)
    (orders_by counted.entries c.in_ok-placed.placed.orders)
    c.in_ok-placed.ensures.1.0 c.in_ok-placed.ensures.1.1 c.in_ok-scope.ensures.tells
    c.in_ok-storage.storage c.in_ok-storage.ensures.levels c.in_ok-storage.ensures.told e)
    c.in_err-meanings.ensures.fault)

pub returns-clause-plan : goal.returns-clause-plan
returns-clause-plan c =
    let counted = seen_as c.args.lines.now c.args.entries.now in
    is-plan c.args.bound.now counted (sight_in c.in_ok-scope.scope)
    (orders_by counted.entries c.in_ok-placed.placed.orders)
    c.in_ok-placed.ensures.1.0 c.in_ok-placed.ensures.1.1 c.in_ok-scope.ensures.tells
    c.in_ok-storage.storage c.in_ok-storage.ensures.levels c.in_ok-storage.ensures.told
    c.in_ok-plan.field-0 c.in_ok-meanings.ensures.names c.in_ok-meanings.ensures.limits
    c.in_ok-plan.ensures

pub plan-requires-clause-few : goal.plan-requires-clause-few
plan-requires-clause-few c =
    let w : World = record {
      thorns = c.args.bound.now;
      sight = sight_in c.in_ok-scope.scope;
      storage = c.in_ok-storage.storage;
    } in
    limit-items w (forests_in (map seen_entry c.args.entries.now) c.in_ok-placed.placed)
    c.in_ok-meanings.ensures.limits
