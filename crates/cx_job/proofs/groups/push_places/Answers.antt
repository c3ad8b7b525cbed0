use Rattle.std.proofs.Common.{arith, refl}
use Rattle.cx_scope.proofs.NameLaws.{one_flat, all_flat}
use Rattle.cx_job.specs.Outputs.{places_in}
use Rattle.cx_job.proofs.groups.push_places.Goals as goal

pub groups-preserved : goal.groups-preserved
groups-preserved c =
    one_flat (places_in (c.args.number, c.args.thorn.now))
    c.args.places.now c.args.groups.now c.groups.place c.index-groups-place.result
    c.groups-test.true c.index-groups-place.is c.groups.invariant refl
    c.in_ok-push_places_in.ensures

pub returns : goal.returns
returns c = all_flat (places_in (c.args.number, c.args.thorn.now))
    c.args.places.now c.args.groups.now c.groups.place (omega arith) c.groups.invariant
