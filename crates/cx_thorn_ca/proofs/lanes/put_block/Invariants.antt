use Rattle.std.proofs.Common.{◌≡◌, ◌<◌, ◌+◌, ℕ, ℤ, length}
use Rattle.cx_thorn_ca.specs.Rows.{AreBy, cell_at}
use Rattle.cx_thorn_ca.specs.Lanes.{lane}
use Rattle.cx_thorn_ca.proofs.lanes.put_block.Given as goal

abbrev pub invariant-cells : goal.invariant-cells
invariant-cells l =
    (length l.next_cells ≡ length l.initial.next_cells)
    × ((f : ℕ → ℤ) → AreBy f l.initial.next_cells l.i
    → ((k : ℕ) → k < 14 → cell_at l.table (lane l.indices k) ≡ f (l.i + k))
    → AreBy f l.next_cells (l.i + l.k))
