use Rattle.std.proofs.Common.{◌≡◌, drop}
use Rattle.cx_core_part.specs.Copies.{is_steered}
use Rattle.cx_core_part.proofs.steering.is_steered.Given as goal

-- what is left decides
abbrev pub invariant-steers : goal.invariant-steers
invariant-steers l = is_steered (drop l.steer-index l.steers) l.item ≡ is_steered l.steers l.item
