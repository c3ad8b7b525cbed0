use Rattle.std.proofs.Common.{◌≡◌, ◌+◌, ◌*◌, ◌≤◌, drop}
use Rattle.cx_core_buffers.specs.Checkpoints.{total}
use Rattle.cx_core_buffers.proofs.sizes.scalar_total.Given as goal
use Rattle.cx_plan.specs.Whole.{scalar_count}

abbrev pub invariant-vars : goal.invariant-vars
invariant-vars l = (l.sum ≤ 255 * l.v)
    × (l.sum + total scalar_count (drop l.v l.vars) ≡ total scalar_count l.vars)
