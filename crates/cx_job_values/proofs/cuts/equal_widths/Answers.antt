use Rattle.cx_cut.specs.Equal.{even}
use Rattle.cx_job_values.specs.Grids.{equal_widths}
use Rattle.cx_job_values.proofs.GridLaws.{told_as, as_equal_widths}
use Rattle.cx_job_values.proofs.cuts.equal_widths.Goals as goal

pub returns : goal.returns
returns c =
    told_as c.even.result (even c.in_ok-points.points c.in_ok-parts.parts)
    (equal_widths c.args.dims c.args.values.now c.args.direction)
    (as_equal_widths c.args.dims c.args.values.now c.args.direction c.in_ok-points.points
    c.in_ok-parts.parts c.in_ok-points.ensures c.in_ok-parts.ensures.value)
    c.even.ensures.value
