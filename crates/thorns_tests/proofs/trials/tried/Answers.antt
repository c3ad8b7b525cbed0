use Rattle.thorns_tests.proofs.trials.tried.Goals as goal

pub swept-requires-clause-field : goal.swept-requires-clause-field
swept-requires-clause-field g c = c.in_ok-field.ensures

pub swept-requires-clause-parts : goal.swept-requires-clause-parts
swept-requires-clause-parts g c = c.in_ok-parts.ensures
