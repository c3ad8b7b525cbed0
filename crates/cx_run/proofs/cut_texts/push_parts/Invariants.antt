use Rattle.std.proofs.Common.{◌≡◌, ◌++◌}
use Rattle.std.specs.List.{flat_map, range_with_len}
use Rattle.cx_run.specs.CutTexts.{part_line}
use Rattle.cx_run.proofs.cut_texts.push_parts.Given as goal

abbrev pub invariant-parts : goal.invariant-parts
invariant-parts l = l.text ≡ l.fn.text ++ flat_map (part_line l.cut) (range_with_len 0 l.part)
