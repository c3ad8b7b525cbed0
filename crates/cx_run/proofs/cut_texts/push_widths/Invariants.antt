use Rattle.std.proofs.Common.{◌≡◌, ◌++◌, take}
use Rattle.std.specs.List.{flat_map}
use Rattle.cx_run.specs.CutTexts.{number_text}
use Rattle.cx_run.proofs.cut_texts.push_widths.Given as goal

abbrev pub invariant-widths : goal.invariant-widths
invariant-widths l = l.text ≡ l.fn.text ++ flat_map number_text (take l.width-index l.widths)
