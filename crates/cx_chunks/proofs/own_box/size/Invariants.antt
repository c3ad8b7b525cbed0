use Rattle.std.proofs.Common.{◌≡◌}
use Rattle.cx_chunks.specs.Cutting.{size_of}
use Rattle.cx_chunks.proofs.own_box.size.Given as goal

abbrev pub invariant-directions : goal.invariant-directions
invariant-directions l = l.size ≡ size_of l.direction l.own
