use Rattle.std.proofs.Common.{◌≡◌}
use Rattle.cx_field.specs.Patches.{with_numbers}
use Rattle.cx_core_buffers.specs.Filling.{levels_filled}
use Rattle.cx_core_buffers.proofs.scattering.fill_levels.Given as goal

abbrev pub invariant-levels : goal.invariant-levels
invariant-levels l =
    l.patch ≡ with_numbers l.initial.patch
    (levels_filled l.initial.patch l.v l.from l.level l.all l.initial.patch.numbers)
