use Rattle.std.proofs.Common.{◌∙◌, ap}
use Rattle.std.specs.Prelude.{find}
use Rattle.cx_plan.specs.Lists.{first_again}
use Rattle.cx_chunks.specs.Combining.{is_at, is_twin, found_values}
use Rattle.cx_chunks.proofs.FindLaws.{chunk_single}
use Rattle.cx_chunks.proofs.combining.piece_in.Goals as goal

pub find_piece-requires : goal.find_piece-requires
find_piece-requires c =
    ap (first_again is_twin) c.chunk.ensures
    ∙ chunk_single c.args.chunks.now 0 c.args.part c.requires

pub returns : goal.returns
returns c =
    ap found_values (c.find_piece.ensures
    ∙ ap (find (is_at c.args.full.now c.args.iteration)) c.chunk.ensures)
