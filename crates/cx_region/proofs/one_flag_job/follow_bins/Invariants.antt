-- what comes of the bins that are left comes of all
use Rattle.std.proofs.Common.{◌≤◌, length, map, drop}
use Rattle.cx_plan.specs.Bins.{bin_number}
use Rattle.cx_plan.specs.Setups.{setup_of}
use Rattle.cx_plan.specs.Paths.{PathOfBins}
use Rattle.cx_region.specs.declared.one_flag_tree.Rounds.TheVariants.{Settled}
use Rattle.cx_region.proofs.OneFlagLaws.{Passed}
use Rattle.cx_region.proofs.one_flag_job.follow_bins.Given as goal

abbrev pub invariant-bins : goal.invariant-bins
invariant-bins l =
    record {
      some : 1 ≤ length l.now.items;
      passed : Passed l.job Settled l.followed (PathOfBins (setup_of l.job) (map bin_number l.bins))
          (PathOfBins (setup_of l.job) (map bin_number (drop l.bin-index l.bins)))
          l.fn.ways.items l.now.items;
    }
