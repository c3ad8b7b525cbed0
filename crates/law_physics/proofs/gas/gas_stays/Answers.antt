use Rattle.cx_plan.specs.Setups.{setup_of}
use Rattle.law_physics.proofs.GasRuns as runs
use Rattle.law_physics.proofs.gas.gas_stays.Goals as goal

pub returns : goal.returns
returns c = λ rules.
    runs.gas_stays (setup_of c.args.job.now) rules c.requires.whole.shape c.requires.periodic
    (c.sound_uses_only_own.ensures rules)
