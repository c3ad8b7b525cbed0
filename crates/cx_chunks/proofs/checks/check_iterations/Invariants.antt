use Rattle.std.proofs.Common.{◌≡◌, drop}
use Rattle.cx_plan.specs.Lists.{first_of_each}
use Rattle.cx_chunks.specs.Combining.{missing_at}
use Rattle.cx_chunks.proofs.checks.check_iterations.Given as goal

abbrev pub invariant-iterations : goal.invariant-iterations
invariant-iterations l =
    first_of_each (missing_at l.cut l.chunks l.full) (drop l.iteration-index l.iterations)
    ≡ first_of_each (missing_at l.cut l.chunks l.full) l.iterations
