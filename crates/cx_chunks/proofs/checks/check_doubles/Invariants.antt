use Rattle.std.proofs.Common.{◌≡◌, drop}
use Rattle.cx_chunks.specs.Combining.{double_in, first_of_chunks}
use Rattle.cx_chunks.proofs.checks.check_doubles.Given as goal

abbrev pub invariant-chunks : goal.invariant-chunks
invariant-chunks l =
    (l.part ≡ l.pieces-index)
    × (first_of_chunks double_in l.part (drop l.pieces-index l.chunks)
    ≡ first_of_chunks double_in 0 l.chunks)
