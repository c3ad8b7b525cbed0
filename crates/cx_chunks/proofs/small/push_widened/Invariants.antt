use Rattle.std.proofs.Common.{◌≡◌, ◌++◌, take}
use Rattle.cx_chunks.proofs.small.push_widened.Given as goal

abbrev pub invariant-numbers : goal.invariant-numbers
invariant-numbers l = l.row.items ≡ l.initial.row.items ++ take l.number-index l.small
