use Rattle.cx_plan.specs.Setups.{setup_of}
use Rattle.cx_model.proofs.ReadyLaws.{settled}
use Rattle.cx_model.proofs.ValueLaws.{needs-only-told}
use Rattle.cx_model.proofs.sound_needs_only_told.Goals as goal

pub returns : goal.returns
returns c = λ rules. needs-only-told (setup_of c.args.job.now) rules
    (settled c.args.job.now c.requires.whole c.requires.shapes c.requires.interior) c.requires.sound
