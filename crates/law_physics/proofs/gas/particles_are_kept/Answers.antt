use Rattle.cx_plan.specs.Setups.{setup_of}
use Rattle.law_physics.proofs.GasLaws.{particles_kept}
use Rattle.law_physics.proofs.gas.particles_are_kept.Goals as goal

pub returns : goal.returns
returns c = λ rules.
    particles_kept (setup_of c.args.job.now) rules c.requires.shape c.requires.periodic
