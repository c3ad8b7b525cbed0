use Rattle.law_physics.proofs.HeatLaws.{opposite}
use Rattle.law_physics.proofs.heat.flows_are_opposite.Goals as goal

pub returns : goal.returns
returns c = opposite
