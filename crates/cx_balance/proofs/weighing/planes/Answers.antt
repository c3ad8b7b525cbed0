use Rattle.std.proofs.Common.{rules}
use Rattle.cx_balance.proofs.WeightLaws.{answer_weighs, level_there}
use Rattle.cx_balance.proofs.weighing.planes.Goals as goal

pub current_level-level-requires-clause-there : goal.current_level-level-requires-clause-there
current_level-level-requires-clause-there c =
    level_there c.args.job.now c.args.state.now c.in-Some.v c.requires.whole c.requires.state
    c.in-Some.is

pub returns-in-Some-clause-value : goal.returns-in-Some-clause-value
returns-in-Some-clause-value c = search rules

pub returns-in-Some-clause-fit : goal.returns-in-Some-clause-fit
returns-in-Some-clause-fit c =
    answer_weighs c.args.job.now c.args.state.now c.args.dir c.weighed_planes.result
    c.requires.whole (returns-in-Some-clause-value c)

pub returns-in-None-clause-value : goal.returns-in-None-clause-value
returns-in-None-clause-value c = search rules

pub returns-in-None-clause-fit : goal.returns-in-None-clause-fit
returns-in-None-clause-fit c =
    answer_weighs c.args.job.now c.args.state.now c.args.dir c.counted_planes.result
    c.requires.whole (returns-in-None-clause-value c)
