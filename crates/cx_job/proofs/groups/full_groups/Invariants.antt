use Rattle.std.proofs.Common.{◌≡◌, take}
use Rattle.cx_job.specs.Outputs.{full_groups}
use Rattle.cx_job.proofs.groups.full_groups.Given as goal

abbrev pub invariant-thorns : goal.invariant-thorns
invariant-thorns l = l.full ≡ full_groups (take l.number l.thorns)
