use Rattle.std.specs.Fork.{slice_chunk}
use Rattle.std.specs.List.{sum_by}
use Rattle.cx_balance.specs.Weighing.{number_weight}
use Rattle.cx_balance.proofs.AddLaws.{IsAdding}
use Rattle.cx_balance.proofs.weighing.add_stretches.Given as goal

abbrev pub invariant-planes : goal.invariant-planes
invariant-planes l =
    IsAdding (λ k. sum_by (number_weight l.factor) (slice_chunk l.block l.stretch k))
    l.initial.weights l.weights l.k
