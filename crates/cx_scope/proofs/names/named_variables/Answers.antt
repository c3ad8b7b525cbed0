use Rattle.std.proofs.Common.{arith, ap, []}
use Rattle.std.specs.List.{flat_map, enumerate_from}
use Rattle.cx_scope.specs.Names.{variables_in, variables_of}
use Rattle.cx_scope.proofs.NameLaws.{one_flat, all_flat}
use Rattle.cx_scope.proofs.names.named_variables.Goals as goal

pub thorns-preserved : goal.thorns-preserved
thorns-preserved c =
    one_flat variables_of []
    c.args.thorns.now c.thorns.number c.index-thorns-number.result c.thorns-test.true
    c.index-thorns-number.is c.thorns.invariant
    (ap (λ gs. flat_map (variables_in (c.thorns.number, c.index-thorns-number.result))
    (enumerate_from 0 gs)) c.as_slice-groups.ensures) c.in_ok-push_variables.ensures

pub returns : goal.returns
returns c = all_flat variables_of [] c.args.thorns.now c.thorns.number (omega arith)
    c.thorns.invariant
