use Rattle.std.proofs.Common.{◌≡◌, drop, map}
use Rattle.std.specs.List.{list_all}
use Rattle.cx_values.specs.Special.{is_width}
use Rattle.cx_values.proofs.special.are_widths.Given as goal

abbrev pub invariant-loop-part : goal.invariant-loop-part
invariant-loop-part l = list_all is_width (map (λ x. x.now) (drop l.part-index l.parts))
    ≡ list_all is_width (map (λ x. x.now) l.parts)
