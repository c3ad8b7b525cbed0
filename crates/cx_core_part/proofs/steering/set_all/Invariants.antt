use Rattle.std.proofs.Common.{◌≡◌, drop}
use Rattle.cx_plan.specs.Steering.{steered}
use Rattle.cx_core_part.proofs.steering.set_all.Given as goal

-- the steers that are left lead where all lead
abbrev pub invariant-steers : goal.invariant-steers
invariant-steers l =
    steered (drop l.steer-index l.steers) l.item l.iteration l.params
    ≡ steered l.steers l.item l.iteration l.fn.params
