use Rattle.std.proofs.Common.{◌∙◌, ap, length}
use Rattle.std.proofs.lemmas.List.{length-replicate}
use Rattle.cx_rule.proofs.BufferLaws.{counts_next}
use Rattle.cx_rule.proofs.patch.cells_up_to.Goals as goal

pub counts-preserved : goal.counts-preserved
counts-preserved c =
    rw c.in_ok-push-2.ensures.items
    (counts_next c.counts.all.items c.counts.k _ c.counts.invariant
    (ap length c.in_ok-new-2.ensures ∙ length-replicate _ _))
