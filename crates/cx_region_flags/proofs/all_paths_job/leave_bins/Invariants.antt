-- the table keeps its size
use Rattle.std.proofs.Common.{◌≡◌, length}
use Rattle.cx_region_flags.proofs.all_paths_job.leave_bins.Given as goal

abbrev pub invariant-bins : goal.invariant-bins
invariant-bins l = length l.table ≡ length l.fn.table
