-- flags have only fallen
use Rattle.cx_region_flags.specs.AllPaths.{IsBelow}
use Rattle.cx_region_flags.proofs.FallLaws.{set_count}
use Rattle.cx_region_flags.proofs.all_paths_job.walk_iterations.Given as goal

abbrev pub invariant-iterations : goal.invariant-iterations
invariant-iterations l = IsBelow l.table l.fn.table

abbrev pub decreases-iterations : goal.decreases-iterations
decreases-iterations l = set_count l.table
