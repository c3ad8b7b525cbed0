use Rattle.std.proofs.Common.{rules, ◌≡◌, true}
use Rattle.cx_job_values.specs.Grids.{has_direction, widths_or, equal_widths, widths_along}
use Rattle.cx_job_values.proofs.GridLaws.{told_as, as_widths_along}
use Rattle.cx_job_values.proofs.cuts.widths_along.Goals as goal

pub returns : goal.returns
returns c =
    let below : has_direction c.args.dims c.args.direction ≡ true = search rules in
    told_as c.widths_or.result
    (widths_or c.in_ok-text.text.now
    (equal_widths c.args.dims c.args.values.now c.args.direction))
    (widths_along c.args.dims c.args.values.now c.args.direction)
    (as_widths_along c.args.dims c.args.values.now c.args.direction c.in_ok-text.text.now below
    c.in_ok-text.ensures)
    c.widths_or.ensures
