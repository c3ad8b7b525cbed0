use Rattle.std.proofs.Common.{◌≡◌, length}
use Rattle.cx_thorn_ca.specs.Rows.{AreBy, next_at}
use Rattle.cx_thorn_ca.proofs.ca_step.put_rest.Given as goal

abbrev pub invariant-cells : goal.invariant-cells
invariant-cells l =
    (length l.next_cells ≡ length l.initial.next_cells)
    × AreBy (next_at l.rule l.cells) l.next_cells l.i
