use Rattle.std.proofs.Common.{◌≡◌, length}
use Rattle.cx_thorn_physics.specs.Rows.{AreBy, gas_at}
use Rattle.cx_thorn_physics.proofs.gas_step.next_row.Given as goal

abbrev pub invariant-cells : goal.invariant-cells
invariant-cells l = (length l.next_cells ≡ length l.initial.next_cells)
    × AreBy (gas_at l.below l.cells l.above) l.next_cells l.i
