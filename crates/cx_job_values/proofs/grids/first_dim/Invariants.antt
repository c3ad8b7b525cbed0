use Rattle.std.proofs.Common.{◌≡◌, drop}
use Rattle.cx_plan.specs.Lists.{first_of_each}
use Rattle.cx_job_values.specs.Grids.{dim_in}
use Rattle.cx_job_values.proofs.grids.first_dim.Given as goal

abbrev pub invariant-loop-thorn : goal.invariant-loop-thorn
invariant-loop-thorn l =
    first_of_each dim_in (drop l.thorn-index l.thorns) ≡ first_of_each dim_in l.thorns
