use Rattle.std.proofs.Common.{◌≡◌, length, Some}
use Rattle.cx_thorn_pde.specs.Rows.{AreBy}
use Rattle.cx_thorn_pde.proofs.edges.put_everywhere.Given as goal

abbrev pub invariant-places : goal.invariant-places
invariant-places l = (length l.out ≡ length l.initial.out) × AreBy (λ _. Some l.number) l.out l.i
