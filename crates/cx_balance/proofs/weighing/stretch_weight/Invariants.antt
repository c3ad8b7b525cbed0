use Rattle.std.proofs.Common.{◌≡◌, ◌+◌, ◌*◌, ◌^◌, ◌≤◌, take}
use Rattle.std.specs.List.{sum_by}
use Rattle.cx_balance.specs.Weighing.{number_weight}
use Rattle.cx_balance.proofs.weighing.stretch_weight.Given as goal

abbrev pub invariant-points : goal.invariant-points
invariant-points l =
    (l.weight ≡ sum_by (number_weight l.factor) (take l.number-index l.numbers))
    × (l.weight ≤ l.number-index * (1 + 2 ^ 40))
