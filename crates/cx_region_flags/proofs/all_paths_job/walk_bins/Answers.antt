use Rattle.cx_plan.specs.Bins.{bin_number}
use Rattle.cx_region_flags.proofs.AllPathsJobLaws.{passing_bins-next, passing_bins-all}
use Rattle.cx_region_flags.proofs.all_paths_job.walk_bins.Goals as goal

pub bins-preserved : goal.bins-preserved
bins-preserved c =
    passing_bins-next bin_number c.args.job.now c.args.bins.now c.bins.bin-index _ c.args.table.now
    c.bins.table c.walk_bin.new.table c.bins-test.true c.in_ok-walk_bin.ensures c.bins.invariant

pub returns : goal.returns
returns c = passing_bins-all bin_number c.args.job.now c.args.bins.now c.bins.bin-index
    c.args.table.now c.bins.table c.bins-test.false c.bins.invariant
