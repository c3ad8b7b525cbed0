use Rattle.std.proofs.Common.{◌≡◌, drop}
use Rattle.cx_plan.specs.Lists.{first_of_each}
use Rattle.cx_job.specs.JobLimits.{writes_fault}
use Rattle.cx_job.proofs.limits.check_writes.Given as goal

abbrev pub invariant-loop-item : goal.invariant-loop-item
invariant-loop-item l = first_of_each writes_fault (drop l.item-index l.items)
    ≡ first_of_each writes_fault l.items
