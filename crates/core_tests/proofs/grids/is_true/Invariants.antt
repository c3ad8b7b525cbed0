use Rattle.std.proofs.Common.{◌≡◌}
use Rattle.core_tests.proofs.grids.is_true.Given as goal

abbrev pub invariant-points : goal.invariant-points
invariant-points l = (l.local ≡ l.patch.local) × (l.shape ≡ l.patch.shape)
