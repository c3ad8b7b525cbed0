use Rattle.std.proofs.Common.{◌≡◌, ◌-◌}
use Rattle.std.specs.List.{range_with_len}
use Rattle.cx_plan.specs.Lists.{first_of_each}
use Rattle.cx_cut.specs.Cuts.{part_count}
use Rattle.cx_chunks.specs.Combining.{missing_in, missing_at}
use Rattle.cx_chunks.proofs.checks.check_everywhere.Given as goal

abbrev pub invariant-parts : goal.invariant-parts
invariant-parts l =
    first_of_each (missing_in l.chunks l.full l.iteration)
    (range_with_len l.part (part_count l.cut - l.part))
    ≡ missing_at l.cut l.chunks l.full l.iteration
