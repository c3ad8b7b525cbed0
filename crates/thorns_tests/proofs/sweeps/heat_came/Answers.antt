use Rattle.thorns_tests.proofs.TestedSpecs.{diff_init, diff_step, diff_flat, diff_scalar}
use Rattle.thorns_tests.proofs.sweeps.heat_came.Goals as goal

pub made_came-requires : goal.made_came-requires
made_came-requires c = λ routine. diff_init

pub made_came-requires-in-Step : goal.made_came-requires-in-Step
made_came-requires-in-Step c = λ routine. diff_step

pub made_came-requires-in-Flat : goal.made_came-requires-in-Flat
made_came-requires-in-Flat c = λ routine. diff_flat

pub made_came-requires-in-Scalar : goal.made_came-requires-in-Scalar
made_came-requires-in-Scalar c = λ routine. diff_scalar
