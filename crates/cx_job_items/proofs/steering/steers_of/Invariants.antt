use Rattle.std.proofs.Common.{◌≡◌, ◌++◌, map, take}
use Rattle.std.specs.List.{flat_map, enumerate_from}
use Rattle.cx_job_items.specs.Steered.{steers_by}
use Rattle.cx_job_items.proofs.steering.steers_of.Given as goal

abbrev pub invariant-steps : goal.invariant-steps
invariant-steps l = l.steers
    ≡ flat_map (steers_by (map (λ s. s.now) l.specs) l.params l.items) (take l.step-index l.steps)
