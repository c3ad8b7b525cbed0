use Rattle.std.proofs.Common.{◌≡◌, ◌++◌}
use Rattle.std.specs.List.{flat_map, range_with_len}
use Rattle.cx_cut.specs.Cuts.{neighbour}
use Rattle.cx_run.specs.CutTexts.{neighbour_text}
use Rattle.cx_run.proofs.cut_texts.push_side.Given as goal

abbrev pub invariant-directions : goal.invariant-directions
invariant-directions l =
    l.text ≡ l.fn.text ++ flat_map (λ d. neighbour_text (neighbour l.cut l.part d l.side))
    (range_with_len 0 l.direction)
