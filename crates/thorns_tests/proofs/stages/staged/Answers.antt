use Rattle.std.proofs.Common.{ap, length}
use Rattle.thorns_tests.proofs.TestedSpecs.{ca_step}
use Rattle.thorns_tests.proofs.stages.staged.Goals as goal

pub field_for-requires : goal.field_for-requires
field_for-requires g c = ca_step

pub first_item-item-requires : goal.first_item-item-requires
first_item-item-requires g c = ap (λ xs. length xs) c.in_ok-field.ensures.items_are

pub part_of-requires-clause-tested : goal.part_of-requires-clause-tested
part_of-requires-clause-tested g c = ca_step

pub part_of-requires-clause-field : goal.part_of-requires-clause-field
part_of-requires-clause-field g c = c.in_ok-field.ensures

pub set_all-requires : goal.set_all-requires
set_all-requires g c =
    record { trial = rw (c.requires, c.first_item-item.ensures) c.in_ok-patch.ensures.trial }
