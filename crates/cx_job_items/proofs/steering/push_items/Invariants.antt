use Rattle.std.proofs.Common.{◌≡◌, ◌++◌, map, take}
use Rattle.std.specs.List.{flat_map, enumerate_from}
use Rattle.cx_job_items.specs.Steered.{steers_of_item}
use Rattle.cx_job_items.proofs.steering.push_items.Given as goal

abbrev pub invariant-items : goal.invariant-items
invariant-items l = l.steers ≡ l.fn.steers
    ++ flat_map (steers_of_item (map (λ s. s.now) l.specs) l.change.at l.full l.change.value)
    (enumerate_from 0 (take l.k l.items))
