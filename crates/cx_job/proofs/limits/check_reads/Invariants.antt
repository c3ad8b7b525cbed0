use Rattle.std.proofs.Common.{◌≡◌, drop}
use Rattle.cx_plan.specs.Lists.{first_of_each}
use Rattle.cx_job.specs.JobLimits.{reads_fault}
use Rattle.cx_job.proofs.limits.check_reads.Given as goal

abbrev pub invariant-loop-item : goal.invariant-loop-item
invariant-loop-item l = first_of_each reads_fault (drop l.item-index l.items)
    ≡ first_of_each reads_fault l.items
