use Rattle.std.proofs.Common.{map, codes}
use Rattle.std.proofs.lemmas.Result.{err_from_is_err_and}
use Rattle.cx_order.specs.Files.{input_of}
use Rattle.cx_order.specs.declared.fault.OrderFault.TheVariants as orders
use Rattle.cx_job.specs.declared.fault.JobFault.TheVariants as faults
use Rattle.cx_job.specs.Making.{Orders, OutputsAnd}
use Rattle.cx_job.specs.Weights.{weight_fault}
use Rattle.cx_job.proofs.MakingLaws.{yields_halt}
use Rattle.cx_job.proofs.ReadyLaws.{unmapped, unwritten, unweighed, plan_made}
use Rattle.cx_job.proofs.making.plan_and.Goals as goal

pub returns-in_err-ordered-clause-made : goal.returns-in_err-ordered-clause-made
returns-in_err-ordered-clause-made c =
    let specs = map (λ s. s.now) c.args.specs.now in
    let thorns = c.args.bound.now in
    let values = c.args.values.now in
    let p = err_from_is_err_and c.from_residual.result c.from_residual.ensures.1 in
    rw (p.1, p.2) (yields_halt (Orders (input_of thorns c.args.schedules.now values))
    (OutputsAnd specs c.args.steps.now thorns values)
    c.in_err-ordered.field-0.0 c.in_err-ordered.ensures)

pub returns-in_err-out_vars-clause-made : goal.returns-in_err-out_vars-clause-made
returns-in_err-out_vars-clause-made c =
    let p = err_from_is_err_and c.from_residual-in_err-out_vars.result
    c.from_residual-in_err-out_vars.ensures.1 in
    rw (p.1, p.2)
    (unwritten (map (λ s. s.now) c.args.specs.now) c.args.schedules.now
    c.args.bound.now c.args.values.now c.args.steps.now c.in_ok-ordered.ordered
    c.in_err-out_vars.field-0.0 c.in_ok-ordered.ensures c.in_err-out_vars.ensures)

pub items_and-requires-clause-weighs : goal.items_and-requires-clause-weighs
items_and-requires-clause-weighs c =
    unmapped (λ f. faults.Order (orders.Scope (codes "weight") f))
    (weight_fault c.args.bound.now c.args.values.now c.in_ok-ordered.ordered.storage)
    c.in_ok-check_weight_name.ensures

pub returns-in_err-check_weight_name-clause-made : goal.returns-in_err-check_weight_name-clause-made
returns-in_err-check_weight_name-clause-made c =
    let p = err_from_is_err_and c.from_residual-in_err-check_weight_name.result
    c.from_residual-in_err-check_weight_name.ensures.1 in
    rw (p.1, p.2)
    (unweighed (map (λ s. s.now) c.args.specs.now) c.args.schedules.now
    c.args.bound.now c.args.values.now c.args.steps.now c.in_ok-ordered.ordered
    c.in_ok-out_vars.out_vars c.in_err-check_weight_name.field-0.0 c.in_ok-ordered.ensures
    c.in_ok-out_vars.ensures c.in_err-check_weight_name.ensures)

pub returns-clause-made : goal.returns-clause-made
returns-clause-made c =
    plan_made (map (λ s. s.now) c.args.specs.now) c.args.schedules.now
    c.args.bound.now c.args.values.now c.args.steps.now c.in_ok-ordered.ordered
    c.in_ok-out_vars.out_vars c.items_and.result
    c.in_ok-ordered.ensures c.in_ok-out_vars.ensures c.in_ok-check_weight_name.ensures
    c.items_and.ensures.made
