-- what is left is distinct exactly where all writes are
use Rattle.std.proofs.Common.{◌≡◌, length}
use Rattle.cx_plan.specs.Regions.{are_distinct}
use Rattle.cx_region_flags.proofs.shapes.are_distinct.Given as goal

abbrev pub invariant-loop-rest : goal.invariant-loop-rest
invariant-loop-rest l = are_distinct l.rest ≡ are_distinct l.writes

abbrev pub decreases-loop-rest : goal.decreases-loop-rest
decreases-loop-rest l = length l.rest
