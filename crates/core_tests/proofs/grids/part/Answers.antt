use Rattle.core_tests.proofs.PartLaws.{part_is}
use Rattle.core_tests.proofs.grids.part.Goals as goal

pub new-requires : goal.new-requires
new-requires c =
    rw (c.requires.shape, c.part.ensures.value, c.local.ensures)
    (part_is c.args.cut.now c.requires.whole c.args.k c.requires.part)
