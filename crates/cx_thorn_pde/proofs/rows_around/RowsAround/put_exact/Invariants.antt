use Rattle.std.proofs.Common.{◌≡◌, length}
use Rattle.cx_thorn_pde.specs.Rows.{AreBy, next_at}
use Rattle.cx_thorn_pde.proofs.rows_around.RowsAround.put_exact.Given as goal

abbrev pub invariant-places : goal.invariant-places
invariant-places l = (length l.out ≡ length l.initial.out)
    × AreBy (next_at l.factor l.self) l.out l.i
