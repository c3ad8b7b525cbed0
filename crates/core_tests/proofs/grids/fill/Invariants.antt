use Rattle.std.proofs.Common.{◌≡◌, []}
use Rattle.cx_field.specs.Patches.{with_numbers}
use Rattle.core_tests.proofs.grids.fill.Given as goal

abbrev pub invariant-points : goal.invariant-points
invariant-points l =
    (with_numbers l.patch [] ≡ with_numbers l.initial.patch [])
    × (l.local ≡ l.initial.patch.local) × (l.shape ≡ l.initial.patch.shape)
