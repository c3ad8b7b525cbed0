use Rattle.cx_values.specs.Assigned.{own_use}
use Rattle.cx_values.proofs.Along.{flat_step}
use Rattle.cx_values.proofs.uses.push_all_own.Goals as goal

pub params-preserved : goal.params-preserved
params-preserved c =
    flat_step c.args.params.now c.params.parameter c.index-params-parameter.result
    c.params-test.true c.index-params-parameter.is (own_use c.args.thorn)
    c.args.uses.now c.params.invariant c.in_ok-push_own.ensures
