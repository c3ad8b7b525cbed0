-- where the bins that are left lead, all lead
use Rattle.std.proofs.Common.{map, drop}
use Rattle.cx_plan.specs.Bins.{bin_number}
use Rattle.cx_region_flags.proofs.AllPathsJobLaws.{PassingBins}
use Rattle.cx_region_flags.proofs.all_paths_job.walk_bins.Given as goal

abbrev pub invariant-bins : goal.invariant-bins
invariant-bins l =
    PassingBins l.job (map bin_number l.bins) (map bin_number (drop l.bin-index l.bins))
    l.fn.table l.table
