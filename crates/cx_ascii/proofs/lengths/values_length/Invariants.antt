use Rattle.std.proofs.Common.{◌≡◌, ◌≤◌, ◌*◌, length, take}
use Rattle.std.specs.List.{flat_map}
use Rattle.cx_ascii.specs.Output.{after_blank}
use Rattle.cx_ascii.proofs.lengths.values_length.Given as goal

abbrev pub invariant-values : goal.invariant-values
invariant-values l = (l.total ≡ length (flat_map after_blank (take l.value-index l.values)))
    × (l.total ≤ 22 * l.value-index)
