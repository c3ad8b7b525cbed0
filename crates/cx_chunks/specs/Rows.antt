-- Rows of values that stand side by side.
use Rattle.std.specs.Prelude.{ℕ, ◌+◌, ℤ, pos, List, ◌++◌, map, take, drop, slice_index_or}
use Rattle.std.specs.List.{range_with_len}

-- so many values of a list from a place on; one that isn't there is 0
abbrev pub values_from : List ℤ → ℕ → ℕ → List ℤ
values_from values from count =
    map (λ i. slice_index_or values (from + i) (pos 0)) (range_with_len 0 count)

-- a list with a row in place of so many values from a place on
abbrev pub with_row : List ℤ → ℕ → ℕ → List ℤ → List ℤ
with_row level at count row = take at level ++ (row ++ drop (at + count) level)
