use Rattle.std.proofs.Common.{◌≡◌, ◌++◌, length, map}
use Rattle.std.specs.List.{range_with_len}
use Rattle.cx_grid.specs.Boxes.{point_in}
use Rattle.cx_rule.specs.Patches.{values_in}
use Rattle.cx_rule.proofs.part.Part.copy_box.Given as goal

abbrev pub invariant-points : goal.invariant-points
invariant-points l =
    l.out.items ≡ l.initial.out.items
    ++ map (λ i. values_in l.self l.v 0 (point_in l.b i)) (range_with_len 0 (length l.yielded))
