use Rattle.std.proofs.Common.{◌≡◌, drop, map}
use Rattle.cx_plan.specs.Lists.{first_of_each}
use Rattle.cx_job.specs.Caps.{cap_fault}
use Rattle.cx_job.proofs.caps.check_caps.Given as goal

abbrev pub invariant-loop-item : goal.invariant-loop-item
invariant-loop-item l =
    first_of_each (cap_fault (map (λ s. s.now) l.specs) l.points) (drop l.item-index l.items)
    ≡ first_of_each (cap_fault (map (λ s. s.now) l.specs) l.points) l.items
