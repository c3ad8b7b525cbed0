use Rattle.cx_values.specs.Assigned.{global_use}
use Rattle.cx_values.proofs.Along.{flat_begun}
use Rattle.cx_values.proofs.uses.all_globals.Goals as goal

pub params-preserved : goal.params-preserved
params-preserved c =
    flat_begun c.args.params.now c.params.parameter c.index-params-parameter.result
    c.params-test.true c.index-params-parameter.is global_use c.params.invariant
    c.in_ok-push_global.ensures
