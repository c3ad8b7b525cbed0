use Rattle.std.proofs.Common.{◌≡◌, ◌+◌, map, length}
use Rattle.std.specs.List.{range_with_len}
use Rattle.cx_rule.proofs.patch.cells_up_to.Given as goal

abbrev pub invariant-counts : goal.invariant-counts
invariant-counts l = map length l.all.items ≡ range_with_len 0 (l.k + 1)
