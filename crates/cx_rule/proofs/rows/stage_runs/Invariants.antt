-- the points that were passed are staged, and the walk stands at the next one
use Rattle.std.proofs.Common.{◌-◌}
use Rattle.cx_grid.specs.Boxes.{point_count}
use Rattle.cx_rule.proofs.AfterLaws.{IsWalked}
use Rattle.cx_rule.proofs.rows.stage_runs.Given as goal

abbrev pub invariant-runs : goal.invariant-runs
invariant-runs g l =
    IsWalked l.initial.patch g.R.PointRule.law l.item l.iteration l.zone.all l.at l.low l.patch
    l.initial.meter l.meter

abbrev pub decreases-runs : goal.decreases-runs
decreases-runs g l = point_count l.zone.all - l.at
