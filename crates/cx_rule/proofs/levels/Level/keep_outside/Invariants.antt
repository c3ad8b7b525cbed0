use Rattle.std.proofs.Common.{◌*◌}
use Rattle.cx_grid.specs.Boxes.{extent}
use Rattle.cx_rule.proofs.RowLaws.{KeptTo}
use Rattle.cx_rule.proofs.levels.Level.keep_outside.Given as goal

abbrev pub invariant-rows : goal.invariant-rows
invariant-rows l = KeptTo l.b l.zone l.level l.initial.self l.self (l.row * extent l.b 0)
