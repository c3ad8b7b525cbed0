use Rattle.std.proofs.Common.{pos, slice_index_or}
use Rattle.cx_balance.specs.Weighing.{number_weight}
use Rattle.cx_balance.proofs.AddLaws.{IsAdding}
use Rattle.cx_balance.proofs.weighing.add_points.Given as goal

abbrev pub invariant-points : goal.invariant-points
invariant-points l =
    IsAdding (λ k. number_weight l.factor (slice_index_or l.row k (pos 0))) l.initial.weights
    l.weights l.k
