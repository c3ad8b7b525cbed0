-- flags have only fallen
use Rattle.cx_region_flags.specs.AllPaths.{IsBelow}
use Rattle.cx_region_flags.proofs.FallLaws.{set_count}
use Rattle.cx_region_flags.proofs.all_paths_job.settle.Given as goal

abbrev pub invariant-turns : goal.invariant-turns
invariant-turns l = IsBelow l.table l.fn.table

abbrev pub decreases-turns : goal.decreases-turns
decreases-turns l = set_count l.table
