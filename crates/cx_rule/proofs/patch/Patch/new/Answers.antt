use Rattle.cx_rule.proofs.PartLaws.{local_box, local_small}
use Rattle.cx_rule.proofs.BufferLaws.{new_buffers}
use Rattle.cx_rule.proofs.patch.Patch.new.Goals as goal

pub count-requires-clause-ordered : goal.count-requires-clause-ordered
count-requires-clause-ordered c = local_box _ _ _ c.requires

pub count-requires-clause-small : goal.count-requires-clause-small
count-requires-clause-small c = local_small _ _ _ c.requires

pub invariant_of-result : goal.invariant_of-result
invariant_of-result c = rw (c.in_ok-zeros.ensures, c.count.ensures, c.in_ok-new.ensures)
    (new_buffers _ _ _ c.in_ok-cells_up_to.ensures)
