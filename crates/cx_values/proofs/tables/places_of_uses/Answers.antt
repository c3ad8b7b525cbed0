use Rattle.std.proofs.Common.{ap}
use Rattle.cx_bind.specs.NamePlaces.{place_of}
use Rattle.cx_values.proofs.TableLaws.{use_more}
use Rattle.cx_values.proofs.tables.places_of_uses.Goals as goal

pub uses-init : goal.uses-init
uses-init c = λ name. ap (λ table. place_of table name) c.new-places.ensures

pub uses-preserved : goal.uses-preserved
uses-preserved c =
    use_more c.args.uses.now c.uses.one-index c.one-item.result c.as_slice.result.now c.uses.places
    c.add_name.new.places c.uses-test.true c.one-item.is c.as_slice.ensures c.uses.invariant
    c.in_ok-add_name.ensures
