use Rattle.std.proofs.Common.{◌∙◌}
use Rattle.cx_core_part.proofs.CopyLaws.{one_made}
use Rattle.cx_core_part.proofs.copies.first_copies.Goals as goal

pub items-preserved : goal.items-preserved
items-preserved c =
    c.in_ok-push.ensures.items
    ∙ one_made c.args.steers.now c.args.items.now c.args.iteration c.items.k
    c.index-items-k.result c.items.copies.items c.in_ok-first_copy.field-0
    c.items-test.true c.items.invariant c.index-items-k.is c.in_ok-first_copy.ensures
