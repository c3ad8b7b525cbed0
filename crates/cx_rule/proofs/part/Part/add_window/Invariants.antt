use Rattle.std.proofs.Common.{◌≡◌}
use Rattle.cx_grid.specs.Boxes.{point_in, shifted}
use Rattle.cx_grid.specs.Windows.{reach_box}
use Rattle.cx_rule.specs.Seen.{volume_of}
use Rattle.cx_rule.specs.Patches.{values_in}
use Rattle.cx_rule.specs.Staging.{with_window}
use Rattle.cx_rule.proofs.WindowLaws.{shown_to}
use Rattle.cx_rule.proofs.part.Part.add_window.Given as goal

abbrev pub invariant-offsets : goal.invariant-offsets
invariant-offsets l =
    l.w ≡ with_window l.fn.w l.read.reach
    (shown_to (λ i. values_in l.self l.read.var l.read.level
    (shifted l.p (point_in (reach_box l.self.shape.dims l.read.reach) i)))
    (volume_of l.self.shape.dims l.read.reach) l.i)
