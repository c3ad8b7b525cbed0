use Rattle.std.proofs.Common.{◌≤◌, length, rules}
use Rattle.cx_plan.specs.Bins.{bin_number}
use Rattle.cx_region_flags.proofs.AllPathsJobLaws.{leads-no_bin}
use Rattle.cx_region_flags.proofs.all_paths_job.walk_bin.Goals as goal

pub returns-in-None : goal.returns-in-None
returns-in-None c =
    let past : length c.args.job.now.plan.bins ≤ bin_number c.args.bin = search rules in
    leads-no_bin c.args.job.now (bin_number c.args.bin) c.args.table.now past
