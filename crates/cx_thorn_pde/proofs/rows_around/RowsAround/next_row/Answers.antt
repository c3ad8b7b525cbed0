use Rattle.std.proofs.Common.{arith, to_z-of_z}
use Rattle.cx_thorn_pde.proofs.RowLaws.{lacks_later}
use Rattle.cx_thorn_pde.proofs.rows_around.RowsAround.next_row.Goals as goal

pub returns-in-Err-clause-overflow : goal.returns-in-Err-clause-overflow
returns-in-Err-clause-overflow c =
    lacks_later _ c.piece_end-to.result _
    (omega (arith, c.piece_end-to.ensures.within, c.pieces.invariant.0))
    (rw (to_z-of_z c.ranges.factor) at c.in-Err.ensures.overflow)
