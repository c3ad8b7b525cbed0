use Rattle.std.proofs.Common.{◌≡◌, take}
use Rattle.cx_job.specs.Outputs.{group_places}
use Rattle.cx_job.proofs.groups.group_places.Given as goal

abbrev pub invariant-thorns : goal.invariant-thorns
invariant-thorns l = l.places ≡ group_places (take l.number l.thorns)
