use Rattle.cx_plan.specs.Setups.{setup_of}
use Rattle.law_physics.proofs.HeatLaws.{heat_kept}
use Rattle.law_physics.proofs.heat.heat_is_kept.Goals as goal

pub returns : goal.returns
returns c = λ rules. heat_kept (setup_of c.args.job.now) rules c.requires.shape c.requires.ghosts
