-- the ways of a head have come from the first ones
use Rattle.std.proofs.Common.{◌≤◌, length}
use Rattle.cx_region.proofs.OneFlagJobLaws.{IsHeadOfIterations}
use Rattle.cx_region.proofs.LevelLaws.{set_everywhere}
use Rattle.cx_region.proofs.one_flag_job.follow_iterations.Given as goal

abbrev pub invariant-iterations : goal.invariant-iterations
invariant-iterations l =
    record {
      some : 1 ≤ length l.head.items;
      head : IsHeadOfIterations l.job l.followed l.fn.ways.items l.head.items;
    }

abbrev pub decreases-iterations : goal.decreases-iterations
decreases-iterations l = set_everywhere l.followed l.head.items
