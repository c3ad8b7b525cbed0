use Rattle.std.proofs.Common.{◌≡◌, drop}
use Rattle.cx_core_part.specs.Copies.{next_after}
use Rattle.cx_core_part.proofs.NextLaws.{earlier}
use Rattle.cx_core_part.proofs.steering.next_after.Given as goal

-- what was found, or what is left, has the next one
abbrev pub invariant-steers : goal.invariant-steers
invariant-steers l =
    earlier l.next (next_after (drop l.steer-index l.steers) l.iteration)
    ≡ next_after l.steers l.iteration
