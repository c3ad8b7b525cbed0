use Rattle.std.proofs.Common.{◌≡◌, ◌++◌, replicate, pos}
use Rattle.cx_chunks.proofs.rows.push_zeros.Given as goal

abbrev pub invariant-zeros : goal.invariant-zeros
invariant-zeros l = l.row.items ≡ l.initial.row.items ++ replicate l.counter (pos 0)
