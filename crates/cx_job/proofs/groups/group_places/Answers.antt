use Rattle.std.proofs.Common.{arith, ap, []}
use Rattle.std.specs.List.{flat_map, enumerate_from}
use Rattle.cx_scope.proofs.NameLaws.{one_flat, all_flat}
use Rattle.cx_job.specs.Outputs.{places_in, places_of}
use Rattle.cx_job.proofs.groups.group_places.Goals as goal

pub thorns-preserved : goal.thorns-preserved
thorns-preserved c =
    one_flat places_of [] c.args.thorns.now c.thorns.number c.index-thorns-number.result
    c.thorns-test.true c.index-thorns-number.is c.thorns.invariant
    (ap (λ gs. flat_map (places_in (c.thorns.number, c.index-thorns-number.result))
    (enumerate_from 0 gs)) c.as_slice-groups.ensures) c.in_ok-push_places.ensures

pub returns : goal.returns
returns c = all_flat places_of [] c.args.thorns.now c.thorns.number (omega arith) c.thorns.invariant
