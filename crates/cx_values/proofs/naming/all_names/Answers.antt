use Rattle.cx_values.proofs.NameLaws.{all_named}
use Rattle.cx_values.proofs.naming.all_names.Goals as goal

pub returns : goal.returns
returns c =
    all_named c.args.thorns.now c.args.params.now c.new-places.result c.add_namings.new.places
    c.add_namings-2.new.places c.add_namings-3.new.places c.add_namings-4.new.places
    c.new-places.ensures c.in_ok-add_namings.ensures c.in_ok-add_namings-2.ensures
    c.in_ok-add_namings-3.ensures c.in_ok-add_namings-4.ensures
