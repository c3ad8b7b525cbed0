use Rattle.std.proofs.Common.{◌≡◌, map}
use Rattle.std.specs.List.{range_with_len}
use Rattle.cx_cut.specs.Equal.{even_width}
use Rattle.cx_cut.proofs.equal.even.Given as goal

abbrev pub invariant-parts : goal.invariant-parts
invariant-parts l = l.widths ≡ map (even_width l.points l.parts) (range_with_len 0 l.part)
