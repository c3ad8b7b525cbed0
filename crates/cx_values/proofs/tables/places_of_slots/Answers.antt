use Rattle.std.proofs.Common.{ap}
use Rattle.cx_bind.specs.NamePlaces.{place_of}
use Rattle.cx_values.proofs.TableLaws.{slot_more}
use Rattle.cx_values.proofs.tables.places_of_slots.Goals as goal

pub slots-init : goal.slots-init
slots-init c = λ name. ap (λ table. place_of table name) c.new-places.ensures

pub slots-preserved : goal.slots-preserved
slots-preserved c =
    slot_more c.args.slots.now c.slots.place c.index-slots-place.result c.as_slice.result.now
    c.slots.places c.add_name.new.places c.slots-test.true c.index-slots-place.is
    c.as_slice.ensures c.slots.invariant c.in_ok-add_name.ensures
