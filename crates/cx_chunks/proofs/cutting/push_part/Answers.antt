use Rattle.std.proofs.Common.{◌≡◌, ◌++◌, ◌∙◌, ap, [], List, ℕ}
use Rattle.std.specs.Prelude.{slice_index_or, slice_set}
use Rattle.std.specs.List.{flat_map}
use Rattle.std.proofs.lemmas.Result.{on_ok_weaker}
use Rattle.std.proofs.lemmas.List.{get_or_default}
use Rattle.cx_chunks.specs.Pieces.{piece_text}
use Rattle.cx_chunks.specs.Cutting.{pieces_in}
use Rattle.cx_chunks.proofs.cutting.push_part.Goals as goal

pub returns : goal.returns
returns c =
    let all = c.args.all.now.items in
    let k = c.args.part in
    let added = flat_map piece_text (pieces_in c.args.cut.now k c.args.entry.now) in
    let text : c.index_mut.result.now ≡ slice_index_or all k [] =
    c.index_mut.ensures.value ∙ get_or_default all k c.index_mut.result.now [] c.requires.texts in
    on_ok_weaker c.push_pieces.result
    (λ is. ap (slice_set all k) (is ∙ ap (λ (t : List ℕ). t ++ added) text))
    c.push_pieces.ensures
