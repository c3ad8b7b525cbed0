use Rattle.std.proofs.Common.{◌≡◌, ◌-◌}
use Rattle.cx_rule.specs.States.{level_of, with_level}
use Rattle.cx_field.specs.Patches.{with_numbers}
use Rattle.cx_core_buffers.specs.Filling.{local_level}
use Rattle.law_parts.proofs.FilledLaws.{filled}
use Rattle.cx_core_buffers.proofs.scattering.fill_level.Given as goal

abbrev pub invariant-runs : goal.invariant-runs
invariant-runs l =
    l.patch
    ≡ with_numbers l.initial.patch (with_level l.initial.patch.numbers l.v l.level
    (filled l.at (local_level l.initial.patch l.numbers)
    (level_of l.initial.patch.numbers l.v l.level)))

abbrev pub decreases-runs : goal.decreases-runs
decreases-runs l = l.end - l.at
