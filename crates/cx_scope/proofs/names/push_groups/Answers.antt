use Rattle.std.proofs.Common.{arith}
use Rattle.cx_scope.specs.Names.{named_group}
use Rattle.cx_scope.proofs.NameLaws.{one_mapped, all_mapped}
use Rattle.cx_scope.proofs.names.push_groups.Goals as goal

pub groups-preserved : goal.groups-preserved
groups-preserved c =
    one_mapped (named_group (c.args.number, c.args.thorn.now))
    c.args.named.now c.args.groups.now c.groups.place c.index-groups-place.result
    c.groups-test.true c.index-groups-place.is c.groups.invariant c.in_ok-named_group.ensures
    c.in_ok-push.ensures.ok

pub returns : goal.returns
returns c = all_mapped (named_group (c.args.number, c.args.thorn.now))
    c.args.named.now c.args.groups.now c.groups.place (omega arith) c.groups.invariant
