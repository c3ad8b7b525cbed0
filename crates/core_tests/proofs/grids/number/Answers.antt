use Rattle.core_tests.proofs.grids.number.Goals as goal

pub index_of-requires-clause-point : goal.index_of-requires-clause-point
index_of-requires-clause-point c = rw c.whole.ensures.value (c.wrap.ensures.inside c.requires.near)
