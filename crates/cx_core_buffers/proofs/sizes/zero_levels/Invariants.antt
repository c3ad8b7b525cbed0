use Rattle.std.proofs.Common.{◌≡◌, replicate, pos}
use Rattle.cx_core_buffers.proofs.sizes.zero_levels.Given as goal

abbrev pub invariant-levels : goal.invariant-levels
invariant-levels l = l.all ≡ replicate l.counter (replicate l.count (pos 0))
