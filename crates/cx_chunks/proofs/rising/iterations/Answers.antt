use Rattle.std.proofs.Common.{◌∙◌, ap, eqb}
use Rattle.std.proofs.lemmas.List.Filters.{dedup_is}
use Rattle.cx_chunks.specs.Combining.{rising}
use Rattle.cx_chunks.proofs.RisingLaws.{sorted_rising}
use Rattle.cx_chunks.proofs.rising.iterations.Goals as goal

pub returns : goal.returns
returns c =
    dedup_is eqb _ _ c.dedup.ensures.filtered
    ∙ sorted_rising c.in_ok-iterations.iterations.items c.sort_unstable.new.self.items
    c.sort_unstable.ensures.permutation c.sort_unstable.ensures.sorted
    ∙ ap rising c.in_ok-iterations.ensures
