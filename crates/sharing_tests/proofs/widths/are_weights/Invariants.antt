use Rattle.std.proofs.Common.{◌≤◌, ◌^◌, take}
use Rattle.std.specs.Prelude.{All}
use Rattle.sharing_tests.proofs.widths.are_weights.Given as goal

abbrev pub invariant-planes : goal.invariant-planes
invariant-planes l =
    All (λ w. 1 ≤ w) (take l.plane-index l.planes)
    × All (λ w. w ≤ 2 ^ 70) (take l.plane-index l.planes)
