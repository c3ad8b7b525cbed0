use Rattle.cx_region_flags.proofs.AllPathsLaws.{on_ok}
use Rattle.cx_region_flags.proofs.AllPathsJobLaws.{sound-from}
use Rattle.cx_region_flags.proofs.all_paths_job.walk_job.Goals as goal

pub returns : goal.returns
returns c =
    on_ok c.walk_bins.result _ _
    (λ l. sound-from c.args.job.now c.in_ok-table.table c.walk_start.new.table
    c.walk_iterations.new.table c.walk_bins.new.table c.in_ok-table.ensures
    c.in_ok-walk_start.ensures c.in_ok-walk_iterations.ensures l)
    c.walk_bins.ensures
