use Rattle.std.proofs.Common.{◌≡◌, ◌≤◌, ◌*◌, length}
use Rattle.std.specs.List.{flat_map, range_with_len}
use Rattle.cx_ascii.specs.Output.{size_of}
use Rattle.cx_ascii.proofs.lengths.sizes_length.Given as goal

abbrev pub invariant-sizes : goal.invariant-sizes
invariant-sizes l = (l.total ≡ length (flat_map (size_of l.shape) (range_with_len 0 l.direction)))
    × (l.total ≤ 21 * l.direction)
