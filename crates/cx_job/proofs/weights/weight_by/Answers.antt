use Rattle.cx_job.proofs.WeightLaws.{named_below}
use Rattle.cx_job.proofs.weights.weight_by.Goals as goal

pub id_of-requires : goal.id_of-requires
id_of-requires c = named_below c.args.vars.now c.args.name.now c.variable_named.result
    c.variable_named.ensures c.requires
