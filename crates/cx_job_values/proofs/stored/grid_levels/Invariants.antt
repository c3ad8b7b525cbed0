use Rattle.std.proofs.Common.{◌≡◌, take}
use Rattle.cx_plan.specs.Whole.{grid_levels}
use Rattle.cx_job_values.proofs.stored.grid_levels.Given as goal
use Rattle.cx_text.specs.Numbers.{in_64_bits}

abbrev pub invariant-vars : goal.invariant-vars
invariant-vars l = l.levels ≡ in_64_bits (grid_levels (take l.info-index l.vars))
