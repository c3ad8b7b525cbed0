use Rattle.std.proofs.Common.{take}
use Rattle.cx_values.specs.Tables.{FindsUses}
use Rattle.cx_values.proofs.tables.places_of_uses.Given as goal

abbrev pub invariant-uses : goal.invariant-uses
invariant-uses l = FindsUses (take l.one-index l.uses) l.places
