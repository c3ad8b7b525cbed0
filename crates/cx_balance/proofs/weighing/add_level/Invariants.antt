use Rattle.std.proofs.Common.{ℕ, ◌≡◌, ◌+◌, ◌*◌, ◌<◌, length, slice_index_or}
use Rattle.std.specs.Fork.{slice_chunk}
use Rattle.std.specs.List.{sum_by}
use Rattle.cx_balance.specs.Weighing.{number_weight}
use Rattle.cx_balance.proofs.SumLaws.{total}
use Rattle.cx_balance.proofs.weighing.add_level.Given as goal

abbrev pub invariant-rounds : goal.invariant-rounds
invariant-rounds l =
    (k : ℕ) → k < length l.initial.weights → slice_index_or l.weights k 0
    ≡ total (λ b. sum_by (number_weight l.factor)
    (slice_chunk l.level l.stretch (b * length l.initial.weights + k))) l.b
