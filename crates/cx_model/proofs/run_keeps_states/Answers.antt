use Rattle.cx_plan.specs.Setups.{setup_of}
use Rattle.cx_model.proofs.ReadyLaws.{ready-trees}
use Rattle.cx_model.proofs.KeepLaws.{keeps-states}
use Rattle.cx_model.proofs.run_keeps_states.Goals as goal

pub returns : goal.returns
returns c = λ rules. keeps-states (setup_of c.args.job.now) rules
    (ready-trees c.args.job.now c.requires.whole c.requires.shapes)
