use Rattle.std.proofs.Common.{◌≡◌, ◌++◌}
use Rattle.std.specs.List.{flat_map, range_with_len}
use Rattle.cx_ascii.specs.Output.{size_of}
use Rattle.cx_chunks.proofs.section.push_sizes.Given as goal

abbrev pub invariant-sizes : goal.invariant-sizes
invariant-sizes l = l.text
    ≡ l.initial.text ++ flat_map (size_of l.shape) (range_with_len 0 l.direction)
