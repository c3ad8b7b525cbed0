use Rattle.thorns_tests.proofs.TestedSpecs.{ca_init, ca_step, ca_zero, life_init, life_step, life_zero}
use Rattle.thorns_tests.proofs.sweeps.automaton_came.Goals as goal

pub made_came-requires : goal.made_came-requires
made_came-requires c = λ routine. ca_init

pub made_came-requires-in-CaStep : goal.made_came-requires-in-CaStep
made_came-requires-in-CaStep c = λ routine. ca_step

pub made_came-requires-in-CaZero : goal.made_came-requires-in-CaZero
made_came-requires-in-CaZero c = λ routine. ca_zero

pub made_came-requires-in-LifeInit : goal.made_came-requires-in-LifeInit
made_came-requires-in-LifeInit c = λ routine. life_init

pub made_came-requires-in-LifeStep : goal.made_came-requires-in-LifeStep
made_came-requires-in-LifeStep c = λ routine. life_step

pub made_came-requires-in-LifeZero : goal.made_came-requires-in-LifeZero
made_came-requires-in-LifeZero c = λ routine. life_zero
