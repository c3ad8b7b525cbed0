use Rattle.std.proofs.Common.{◌≡◌, pos, replicate}
use Rattle.cx_rule.proofs.buffers.Buffers.zeros.Given as goal

abbrev pub invariant-buffers : goal.invariant-buffers
invariant-buffers l = l.all.items ≡ replicate l.counter (replicate l.numbers (pos 0))
