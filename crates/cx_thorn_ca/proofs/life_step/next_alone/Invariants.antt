use Rattle.std.proofs.Common.{◌≡◌, length}
use Rattle.cx_thorn_ca.specs.Rows.{AreBy, next_alone}
use Rattle.cx_thorn_ca.proofs.life_step.next_alone.Given as goal

abbrev pub invariant-cells : goal.invariant-cells
invariant-cells l =
    (length l.next_cells ≡ length l.initial.next_cells)
    × AreBy (next_alone l.survive l.born l.cells) l.next_cells l.i
