use Rattle.core_tests.proofs.PartLaws.{one_more}
use Rattle.core_tests.proofs.grids.parts.Goals as goal

pub parts-preserved : goal.parts-preserved
parts-preserved c =
    rw c.in_ok-push.ensures.items
    (one_more c.args.cut.now c.parts.k c.parts.patches.items c.in_ok-part.field-0
    c.parts.invariant c.in_ok-part.ensures)
