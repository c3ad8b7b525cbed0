use Rattle.cx_model.proofs.ReadyLaws.{settled}
use Rattle.cx_model.proofs.ValueLaws.{steps-agree}
use Rattle.cx_model.proofs.steps_agree.Goals as goal

pub returns : goal.returns
returns c = λ rules. steps-agree c.args.job.now rules
    (settled c.args.job.now c.requires.whole c.requires.shapes c.requires.interior)
    c.requires.whole.items
