use Rattle.cx_plan.specs.Setups.{setup_of}
use Rattle.cx_model.proofs.RunGuides.{uses-only-set}
use Rattle.cx_model.proofs.sound_uses_only_set.Goals as goal

-- src/lib.rt:14:1
pub returns : goal.returns
returns c = λ rules. uses-only-set (setup_of c.args.job.now) rules
