use Rattle.std.proofs.Common.{◌≡◌, ◌+◌, ◌*◌, ◌≤◌, drop}
use Rattle.cx_core_buffers.specs.Checkpoints.{total}
use Rattle.cx_core_buffers.proofs.sizes.level_total.Given as goal
use Rattle.cx_plan.specs.Whole.{level_count}

abbrev pub invariant-vars : goal.invariant-vars
invariant-vars l = (l.sum ≤ 255 * l.v)
    × (l.sum + total level_count (drop l.v l.vars) ≡ total level_count l.vars)
