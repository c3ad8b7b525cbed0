use Rattle.std.proofs.Common.{◌≡◌}
use Rattle.cx_chunks.specs.Cutting.{low_of}
use Rattle.cx_chunks.proofs.own_box.low.Given as goal

abbrev pub invariant-directions : goal.invariant-directions
invariant-directions l = l.low ≡ low_of l.direction l.own
