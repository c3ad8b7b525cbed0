use Rattle.std.proofs.Common.{◌≡◌, ◌≤◌, length, filter, take}
use Rattle.cx_reduce.proofs.walk.counted_in.Given as goal
use Rattle.cx_text.specs.Numbers.{is_not_zero}

abbrev pub invariant-values : goal.invariant-values
invariant-values l = (l.counted ≡ length (filter is_not_zero (take l.value-index l.row)))
    × (l.counted ≤ l.value-index)
