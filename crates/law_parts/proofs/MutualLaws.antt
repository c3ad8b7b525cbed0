-- In the directions that there are, a part is its partner's partner at the other side.
use Rattle.cx_grid.specs.declared.shapes.Side.TheVariants.{Low, High}
use Rattle.cx_cut.specs.Neighbours.{Neighbours}
use Rattle.law_parts.specs.Runs.{Run, cut_of}
use Rattle.law_parts.proofs.Ways.{IsMutual}
use Rattle.law_parts.proofs.PairLaws.{both_ways}

pub partners_mutual : (r : Run) → Neighbours (cut_of r) → IsMutual r
partners_mutual r law = record {
  high = λ a b d hd ha hb. both_ways r law d hd a b ha hb High;
  low = λ a b d hd ha hb. both_ways r law d hd a b ha hb Low;
}
