use Rattle.std.proofs.Common.{rules, ◌≡◌, ◌++◌, true, codes}
use Rattle.cx_job_values.specs.Grids.{holds_at, letter, has_direction, is_periodic_along}
use Rattle.cx_job_values.proofs.GridLaws.{told_as, as_periodic_along}
use Rattle.cx_job_values.proofs.grids.is_periodic_along.Goals as goal

pub returns : goal.returns
returns c =
    let below : has_direction c.args.dims c.args.direction ≡ true = search rules in
    let all : holds_at c.args.values.now (codes "driver::periodic") ≡ true = search rules in
    told_as c.holds_along.result
    (holds_at c.args.values.now (codes "driver::periodic_" ++ letter c.args.direction))
    (is_periodic_along c.args.dims c.args.values.now c.args.direction)
    (as_periodic_along c.args.dims c.args.values.now c.args.direction below all)
    c.holds_along.ensures
