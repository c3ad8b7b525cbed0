use Rattle.std.proofs.Common.{◌≡◌, ◌<◌, ◌+◌, ◌*◌, ℕ, ℤ, length}
use Rattle.cx_thorn_ca.specs.Rows.{AreBy, cell_at, four_at}
use Rattle.cx_thorn_ca.proofs.pairs.put_pairs.Given as goal

abbrev pub invariant-pairs : goal.invariant-pairs
invariant-pairs l =
    (length l.next_cells ≡ length l.initial.next_cells)
    × ((f : ℕ → ℤ) → AreBy f l.initial.next_cells l.i
    → ((k : ℕ) → k < 7 → (cell_at l.table (2 * four_at l.bits k) ≡ f (l.i + 2 * k))
    × (cell_at l.table (2 * four_at l.bits k + 1) ≡ f (l.i + 2 * k + 1)))
    → AreBy f l.next_cells (l.i + 2 * l.k))
