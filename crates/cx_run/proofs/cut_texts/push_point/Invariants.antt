use Rattle.std.proofs.Common.{◌≡◌, ◌++◌}
use Rattle.std.specs.List.{flat_map, range_with_len}
use Rattle.cx_run.specs.CutTexts.{coordinate_text}
use Rattle.cx_run.proofs.cut_texts.push_point.Given as goal

abbrev pub invariant-directions : goal.invariant-directions
invariant-directions l =
    l.text ≡ l.fn.text ++ flat_map (coordinate_text l.p) (range_with_len 0 l.direction)
