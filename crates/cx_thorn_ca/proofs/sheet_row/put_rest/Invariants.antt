use Rattle.std.proofs.Common.{◌≡◌, length}
use Rattle.cx_thorn_ca.specs.Rows.{AreBy}
use Rattle.cx_thorn_ca.specs.Rows.{counted_at}
use Rattle.cx_thorn_ca.proofs.sheet_row.put_rest.Given as goal

abbrev pub invariant-cells : goal.invariant-cells
invariant-cells l =
    (length l.next_cells ≡ length l.initial.next_cells)
    × AreBy (counted_at l.table l.below l.cells l.above) l.next_cells l.i
