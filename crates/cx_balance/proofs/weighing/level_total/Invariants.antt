use Rattle.std.proofs.Common.{◌≡◌, ◌*◌, ◌≤◌, take}
use Rattle.std.specs.List.{sum_by}
use Rattle.cx_plan.specs.Whole.{level_count}
use Rattle.cx_balance.proofs.weighing.level_total.Given as goal

abbrev pub invariant-vars : goal.invariant-vars
invariant-vars l = (l.total ≡ sum_by level_count (take l.var-index l.vars))
    × (l.total ≤ 255 * l.var-index)
