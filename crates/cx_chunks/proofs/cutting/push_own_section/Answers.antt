use Rattle.std.proofs.Common.{◌∙◌, ◌++◌, ap, ℤ, List}
use Rattle.std.proofs.lemmas.Result.{on_ok_weaker}
use Rattle.cx_ascii.specs.Output.{rows_text}
use Rattle.cx_ascii_read.specs.Records.{shape_of}
use Rattle.cx_chunks.specs.Cutting.{own_of, own_values}
use Rattle.cx_chunks.proofs.RowTexts.{section_grown}
use Rattle.cx_chunks.proofs.cutting.push_own_section.Goals as goal

pub returns : goal.returns
returns c =
    on_ok_weaker c.push_slice.result
    (λ is. section_grown c.args.cut.now c.args.part c.args.entry.now c.in_ok-own.own
    c.args.text.now c.push_section_head.new.text c.push_own_rows.new.text c.push_slice.new.self
    c.in_ok-own.ensures c.in_ok-push_section_head.ensures
    (c.in_ok-push_own_rows.ensures
    ∙ ap (λ (vs : List ℤ). c.push_section_head.new.text
    ++ rows_text (shape_of (own_of c.args.cut.now c.args.part).size)
    (own_values c.args.cut.now c.args.part vs)) c.as_slice.ensures)
    is)
    c.push_slice.ensures.ok
