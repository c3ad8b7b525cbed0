use Rattle.std.proofs.Common.{◌*◌}
use Rattle.cx_grid.specs.Boxes.{extent}
use Rattle.cx_rule.proofs.CommitLaws.{ZoneTo}
use Rattle.cx_rule.proofs.levels.Level.put_zone.Given as goal

abbrev pub invariant-rows : goal.invariant-rows
invariant-rows l = ZoneTo l.b l.zone l.within l.initial.self l.self (l.row * extent l.b 0)
