use Rattle.cx_balance.proofs.WeightLaws.{levels_weigh}
use Rattle.cx_balance.proofs.laws.checkpoints_weigh.Goals as goal

pub returns : goal.returns
returns c = levels_weigh
