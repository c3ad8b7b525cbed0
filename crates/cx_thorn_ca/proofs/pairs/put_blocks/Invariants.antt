use Rattle.std.proofs.Common.{◌≡◌, ◌≤◌, ◌-◌, ℤ, length}
use Rattle.cx_thorn_ca.specs.Rows.{AreBy, next_at, pair_bit}
use Rattle.cx_thorn_ca.proofs.pairs.put_blocks.Given as goal

abbrev pub invariant-fourteens : goal.invariant-fourteens
invariant-fourteens l =
    (length l.next_cells ≡ length l.initial.next_cells) × (l.i ≤ length l.next_cells)
    × ((rule : ℤ) → AreBy (pair_bit rule) l.table 32
    → AreBy (next_at rule l.cells) l.next_cells l.i)

abbrev pub decreases-fourteens : goal.decreases-fourteens
decreases-fourteens l = length l.next_cells - l.i
