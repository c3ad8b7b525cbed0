use Rattle.std.proofs.Common.{arith, ap, map, []}
use Rattle.std.specs.List.{enumerate_from}
use Rattle.cx_scope.proofs.NameLaws.{one_flat, all_flat}
use Rattle.cx_job.specs.Outputs.{full_group, groups_of}
use Rattle.cx_job.proofs.groups.full_groups.Goals as goal

pub thorns-preserved : goal.thorns-preserved
thorns-preserved c =
    one_flat groups_of [] c.args.thorns.now c.thorns.number c.index-thorns-number.result
    c.thorns-test.true c.index-thorns-number.is c.thorns.invariant
    (ap (λ gs. map (full_group (c.thorns.number, c.index-thorns-number.result))
    (enumerate_from 0 gs)) c.as_slice-groups.ensures) c.in_ok-push_groups.ensures

pub returns : goal.returns
returns c = all_flat groups_of [] c.args.thorns.now c.thorns.number (omega arith) c.thorns.invariant
