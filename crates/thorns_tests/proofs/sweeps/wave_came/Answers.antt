use Rattle.thorns_tests.proofs.TestedSpecs.{wave_init, wave_step, wave_flat, wave_copy, wave_scalar}
use Rattle.thorns_tests.proofs.sweeps.wave_came.Goals as goal

pub made_came-requires : goal.made_came-requires
made_came-requires c = λ routine. wave_init

pub made_came-requires-in-Step : goal.made_came-requires-in-Step
made_came-requires-in-Step c = λ routine. wave_step

pub made_came-requires-in-Flat : goal.made_came-requires-in-Flat
made_came-requires-in-Flat c = λ routine. wave_flat

pub made_came-requires-in-Copy : goal.made_came-requires-in-Copy
made_came-requires-in-Copy c = λ routine. wave_copy

pub made_came-requires-in-Scalar : goal.made_came-requires-in-Scalar
made_came-requires-in-Scalar c = λ routine. wave_scalar
