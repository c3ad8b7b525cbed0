use Rattle.sample_runs.proofs.carriers.wire.Goals as goal

pub returns-clause-told : goal.returns-clause-told
returns-clause-told c = c.in_ok-wire.ensures.told

pub returns-clause-bare : goal.returns-clause-bare
returns-clause-bare c = c.in_ok-wire.ensures.bare
