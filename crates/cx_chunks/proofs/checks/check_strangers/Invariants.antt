use Rattle.std.proofs.Common.{◌≡◌, drop}
use Rattle.cx_plan.specs.Setups.{setup_of}
use Rattle.cx_chunks.specs.Combining.{stranger_in, first_of_chunks}
use Rattle.cx_chunks.proofs.checks.check_strangers.Given as goal

abbrev pub invariant-chunks : goal.invariant-chunks
invariant-chunks l =
    (l.part ≡ l.pieces-index)
    × (first_of_chunks (stranger_in (setup_of l.job) l.cut) l.part (drop l.pieces-index l.chunks)
    ≡ first_of_chunks (stranger_in (setup_of l.job) l.cut) 0 l.chunks)
