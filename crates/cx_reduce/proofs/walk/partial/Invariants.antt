-- the number over the rows that were passed
use Rattle.std.proofs.Common.{◌≡◌, ◌*◌}
use Rattle.cx_grid.specs.Boxes.{extent}
use Rattle.cx_field.specs.Patches.{number_at}
use Rattle.cx_reduce.specs.Partials.{IsBounded}
use Rattle.cx_reduce.proofs.Rows.{running_over}
use Rattle.cx_reduce.proofs.walk.partial.Given as goal

abbrev pub invariant-rows : goal.invariant-rows
invariant-rows l =
    (l.number ≡ running_over l.kind l.patch.owned (number_at l.patch l.v l.level)
    (l.row * extent l.patch.owned 0))
    × IsBounded (l.row * extent l.patch.owned 0) l.number
