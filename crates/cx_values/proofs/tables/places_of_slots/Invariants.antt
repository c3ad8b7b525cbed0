use Rattle.std.proofs.Common.{take}
use Rattle.cx_values.specs.Tables.{FindsSlots}
use Rattle.cx_values.proofs.tables.places_of_slots.Given as goal

abbrev pub invariant-slots : goal.invariant-slots
invariant-slots l = FindsSlots (take l.place l.slots) l.places
