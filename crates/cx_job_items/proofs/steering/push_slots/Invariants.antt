use Rattle.std.proofs.Common.{◌≡◌, ◌++◌, map, take}
use Rattle.std.specs.List.{flat_map, enumerate_from}
use Rattle.cx_job_items.specs.Steered.{steer_of}
use Rattle.cx_job_items.proofs.steering.push_slots.Given as goal

abbrev pub invariant-names : goal.invariant-names
invariant-names l = l.steers
    ≡ l.fn.steers ++ flat_map (steer_of l.change.at l.full l.change.value l.k)
    (enumerate_from 0 (take l.slot l.names))
