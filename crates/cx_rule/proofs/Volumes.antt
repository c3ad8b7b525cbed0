-- How many values come before a read.
use Rattle.std.proofs.Common.{◌≡◌, ℕ, ◌+◌, ◌<◌, ◌≤◌, List, length, take, slice_index_or}
use Rattle.std.proofs.lemmas.List.Sums.{sum_by_more, sum_by_more_le}
use Rattle.cx_rule.specs.Seen.{volumes, volume_of}

pub volumes_more : (dims : ℕ) (reaches : List ℕ) (k : ℕ) → k < length reaches
    → volumes dims (take (k + 1) reaches)
    ≡ volumes dims (take k reaches) + volume_of dims (slice_index_or reaches k 0)
volumes_more dims reaches k h = sum_by_more (volume_of dims) reaches k 0 h

pub within : (dims : ℕ) (reaches : List ℕ) (k : ℕ) → k < length reaches
    → volumes dims (take k reaches) + volume_of dims (slice_index_or reaches k 0)
    ≤ volumes dims reaches
within dims reaches k h = sum_by_more_le (volume_of dims) reaches k 0 h
