-- First the depth, then the number of nodes.
use Rattle.std.proofs.Common.{codes}
use Rattle.std.proofs.lemmas.Result.{err_from_is_err_and}
use Rattle.cx_plan.specs.Sizes.{all_nodes, greatest_depth}
use Rattle.cx_order.specs.declared.fault.OrderFault.TheVariants.{Memory}
use Rattle.cx_order.specs.Plans.{bin_trees, over}
use Rattle.cx_order.proofs.CheckLaws.{first-of-two, second-of-two}
use Rattle.cx_order.proofs.checks.check_limits.Goals as goal

pub returns-in_err-check_limit : goal.returns-in_err-check_limit
returns-in_err-check_limit c =
    λ w forests are.
    let ts = bin_trees w 0 forests in
    let sizes = c.plan_sizes-sizes.ensures w 0 0 forests are in
    let p = err_from_is_err_and c.from_residual.result c.from_residual.ensures.1 in
    rw (p.1, p.2)
    (first-of-two (over (codes "depth") (greatest_depth ts) 32)
    (over (codes "nodes") (all_nodes ts) 4096) Memory c.in_err-check_limit.field-0.0
    (c.in_err-check_limit.ensures (greatest_depth ts) sizes.depth))

pub returns : goal.returns
returns c =
    λ w forests are.
    let ts = bin_trees w 0 forests in
    let sizes = c.plan_sizes-sizes.ensures w 0 0 forests are in
    second-of-two (over (codes "depth") (greatest_depth ts) 32)
    (over (codes "nodes") (all_nodes ts) 4096) c.check_limit-2.result
    (c.in_ok-check_limit.ensures (greatest_depth ts) sizes.depth)
    (c.check_limit-2.ensures (all_nodes ts) sizes.nodes)
