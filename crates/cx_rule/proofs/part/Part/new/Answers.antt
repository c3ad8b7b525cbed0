use Rattle.cx_rule.proofs.PartLaws.{new_patch_is, local_box, local_small}
use Rattle.cx_rule.proofs.part.Part.new.Goals as goal

pub zero_levels-requires-clause-ordered : goal.zero_levels-requires-clause-ordered
zero_levels-requires-clause-ordered c = local_box _ _ _ c.requires

pub zero_levels-requires-clause-small : goal.zero_levels-requires-clause-small
zero_levels-requires-clause-small c = local_small _ _ _ c.requires

pub invariant_of-result : goal.invariant_of-result
invariant_of-result c = rw
    (c.in_ok-zero_levels.ensures, c.in_ok-copies.ensures, c.as_slice.ensures, c.as_slice-2.ensures)
    (new_patch_is _ _ _ _ c.requires)
