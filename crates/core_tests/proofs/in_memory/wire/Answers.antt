use Rattle.core_tests.proofs.in_memory.wire.Goals as goal

pub returns-clause-empty : goal.returns-clause-empty
returns-clause-empty c = c.in_ok-wire.ensures.told
