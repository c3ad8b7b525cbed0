use Rattle.std.proofs.Common.{◌≡◌, ◌++◌, drop}
use Rattle.std.specs.List.{flat_map}
use Rattle.cx_chunks.specs.Combining.{iterations_in}
use Rattle.cx_chunks.proofs.rising.all_iterations.Given as goal

abbrev pub invariant-chunks : goal.invariant-chunks
invariant-chunks l =
    l.iterations.items ++ flat_map (iterations_in l.full) (drop l.pieces-index l.chunks)
    ≡ flat_map (iterations_in l.full) l.chunks
