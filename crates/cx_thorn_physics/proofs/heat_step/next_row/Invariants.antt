use Rattle.std.proofs.Common.{◌≡◌, length}
use Rattle.cx_thorn_physics.specs.Rows.{AreGiven, heat_at}
use Rattle.cx_thorn_physics.proofs.heat_step.next_row.Given as goal

abbrev pub invariant-places : goal.invariant-places
invariant-places l = (length l.out ≡ length l.initial.out)
    × AreGiven (heat_at l.factor l.heat l.mask) l.out l.i
