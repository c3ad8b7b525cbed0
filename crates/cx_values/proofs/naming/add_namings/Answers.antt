use Rattle.cx_values.proofs.NameLaws.{adds_none, one_named_more}
use Rattle.cx_values.proofs.naming.add_namings.Goals as goal

pub params-init : goal.params-init
params-init c = adds_none c.args.places.now

pub params-preserved : goal.params-preserved
params-preserved c =
    one_named_more c.args.thorns.now c.args.way c.args.params.now c.params.place
    c.index-params-place.result c.args.places.now c.params.places c.add_naming.new.places
    c.params-test.true c.index-params-place.is c.params.invariant c.in_ok-add_naming.ensures
