use Rattle.std.proofs.Common.{◌∙◌}
use Rattle.cx_bind.specs.NamePlaces.{place_of}
use Rattle.cx_values.specs.Assigned.{uses_of}
use Rattle.cx_values.proofs.Along.{map_begun}
use Rattle.cx_values.proofs.uses.all_uses.Goals as goal

pub thorns-preserved : goal.thorns-preserved
thorns-preserved c =
    map_begun c.args.thorns.now c.thorns.number c.index-thorns-number.result c.thorns-test.true
    c.index-thorns-number.is (uses_of c.args.params.now (place_of c.args.names.now))
    c.thorns.invariant (c.in_ok-new.ensures ∙ c.in_ok-uses.ensures) c.in_ok-push.ensures.ok
