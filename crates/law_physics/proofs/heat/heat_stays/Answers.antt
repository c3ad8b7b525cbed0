use Rattle.cx_plan.specs.Setups.{setup_of}
use Rattle.law_physics.proofs.HeatRuns as runs
use Rattle.law_physics.proofs.heat.heat_stays.Goals as goal

pub returns : goal.returns
returns c = λ rules.
    runs.heat_stays (setup_of c.args.job.now) rules c.requires.whole.shape c.requires.shapes
    (c.sound_uses_only_own.ensures rules)
