-- How contracts see open WHILEs.
use Rattle.std.specs.Prelude.{List, map}
use Rattle.cx_flat.specs.Flats.{Opened}
use Rattle.cx_core_place.specs.declared.opened.OpenWhile.{OpenWhile}

abbrev pub opened_of : OpenWhile → Opened
opened_of o = record { place = o.place; turns = o.turns }

abbrev pub all_opened : List OpenWhile → List Opened
all_opened os = map opened_of os
