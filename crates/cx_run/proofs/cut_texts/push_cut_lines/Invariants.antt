use Rattle.std.proofs.Common.{◌≡◌, ◌++◌}
use Rattle.std.specs.List.{flat_map, range_with_len}
use Rattle.cx_cut.specs.Faults.{parts_of}
use Rattle.cx_run.specs.CutTexts.{cut_line}
use Rattle.cx_run.proofs.cut_texts.push_cut_lines.Given as goal

abbrev pub invariant-directions : goal.invariant-directions
invariant-directions l =
    l.text ≡ l.fn.text ++ flat_map (cut_line (parts_of l.job.shape l.job.cut))
    (range_with_len 0 l.direction)
