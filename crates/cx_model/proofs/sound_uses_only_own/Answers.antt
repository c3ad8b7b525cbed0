use Rattle.cx_plan.specs.Setups.{setup_of}
use Rattle.cx_model.proofs.ReadyLaws.{settled}
use Rattle.cx_model.proofs.RunLaws.{uses-only-own}
use Rattle.cx_model.proofs.sound_uses_only_own.Goals as goal

pub returns : goal.returns
returns c = λ rules. uses-only-own (setup_of c.args.job.now) rules
    (settled c.args.job.now c.requires.whole c.requires.shapes c.requires.interior) c.requires.sound
