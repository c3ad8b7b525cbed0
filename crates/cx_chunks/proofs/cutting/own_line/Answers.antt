use Rattle.std.proofs.Common.{rules, SFits, w64, to_z, of_z, to_z-of_z, ◌≡◌, ◌∙◌, pos}
use Rattle.std.specs.Prelude.{slice_index_or}
use Rattle.std.specs.List.{flat_map}
use Rattle.std.proofs.lemmas.Result.{IfOk-weaker}
use Rattle.cx_ascii.specs.Output.{line}
use Rattle.cx_chunks.specs.Pieces.{piece_text}
use Rattle.cx_chunks.specs.Cutting.{line_in}
use Rattle.cx_chunks.proofs.StepLaws.{line_text}
use Rattle.cx_chunks.proofs.cutting.own_line.Goals as goal

pub returns-then-part-eq0 : goal.returns-then-part-eq0
returns-then-part-eq0 c =
    let value : c.value_at.result ≡ slice_index_or c.args.entry.now.values 0 (pos 0) =
    search rules in
    let fits : SFits w64 c.value_at.result = search rules in
    let kept : to_z w64 (of_z w64 c.value_at.result)
    ≡ slice_index_or c.args.entry.now.values 0 (pos 0) =
    to_z-of_z fits ∙ value in
    IfOk-weaker c.scalar_line.result
    (λ text. text ≡ line c.args.entry.now.full c.args.entry.now.iteration
    (to_z w64 (of_z w64 c.value_at.result)))
    (λ text. text ≡ flat_map piece_text (line_in c.args.part c.args.entry.now))
    (λ text is. line_text c.args.part c.args.entry.now (to_z w64 (of_z w64 c.value_at.result)) text
    c.if-part-eq0.true c.requires kept is)
    c.scalar_line.ensures
