use Rattle.std.proofs.Common.{◌≡◌, ◌++◌, drop}
use Rattle.cx_chunks.specs.Combining.{iterations_in}
use Rattle.cx_chunks.proofs.rising.push_iterations.Given as goal

abbrev pub invariant-pieces : goal.invariant-pieces
invariant-pieces l =
    l.iterations.items ++ iterations_in l.full (drop l.piece-index l.pieces)
    ≡ l.initial.iterations.items ++ iterations_in l.full l.pieces
