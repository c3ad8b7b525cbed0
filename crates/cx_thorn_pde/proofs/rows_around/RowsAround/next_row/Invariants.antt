use Rattle.std.proofs.Common.{◌≡◌, ◌≤◌, ◌-◌, length}
use Rattle.cx_thorn_pde.specs.Rows.{AreBy, next_at}
use Rattle.cx_thorn_pde.proofs.rows_around.RowsAround.next_row.Given as goal

abbrev pub invariant-pieces : goal.invariant-pieces
invariant-pieces l =
    (length l.out ≡ length l.initial.out) × (l.from ≤ length l.out)
    × AreBy (next_at l.factor l.self) l.out l.from

abbrev pub decreases-pieces : goal.decreases-pieces
decreases-pieces l = length l.initial.out - l.from
