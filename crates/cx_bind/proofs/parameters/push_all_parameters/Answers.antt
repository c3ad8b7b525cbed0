use Rattle.cx_bind.proofs.ParameterLaws.{one_thorn_more}
use Rattle.cx_bind.proofs.parameters.push_all_parameters.Goals as goal

pub thorns-preserved : goal.thorns-preserved
thorns-preserved c =
    one_thorn_more c.args.extensions.now c.args.thorns.now c.thorns.number
    c.index-thorns-number.result c.args.params.now c.as_slice-decls.result.now
    c.thorns-test.true c.index-thorns-number.is c.as_slice-decls.ensures c.thorns.invariant
    c.in_ok-push_parameters_of.ensures
