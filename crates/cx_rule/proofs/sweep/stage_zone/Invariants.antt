-- the points that were passed are staged
use Rattle.std.proofs.Common.{◌-◌, take}
use Rattle.cx_grid.specs.Boxes.{point_count, points_in}
use Rattle.cx_rule.specs.Swept.{IsStaged}
use Rattle.cx_rule.proofs.sweep.stage_zone.Given as goal

abbrev pub invariant-points : goal.invariant-points
invariant-points g l =
    IsStaged l.initial.patch g.R.PointRule.law l.item l.iteration
    (take l.at (points_in l.zone.all)) l.patch l.initial.meter l.meter

abbrev pub decreases-points : goal.decreases-points
decreases-points g l = point_count l.zone.all - l.at
