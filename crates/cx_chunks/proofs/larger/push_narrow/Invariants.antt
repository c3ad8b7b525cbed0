use Rattle.std.proofs.Common.{◌≡◌, ◌++◌, take}
use Rattle.cx_chunks.proofs.larger.push_narrow.Given as goal

abbrev pub invariant-numbers : goal.invariant-numbers
invariant-numbers l = l.row.items ≡ l.initial.row.items ++ take l.place l.numbers
