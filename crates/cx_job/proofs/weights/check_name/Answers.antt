use Rattle.cx_job.proofs.WeightLaws.{named_within}
use Rattle.cx_job.proofs.weights.check_name.Goals as goal

pub check_grid-requires : goal.check_grid-requires
check_grid-requires c = named_within c.args.vars.now c.args.name.now c.variable_named.result
    c.variable_named.ensures
