use Rattle.cx_region_flags.proofs.AllPathsLaws.{on_ok}
use Rattle.cx_region_flags.proofs.AllPathsJobLaws.{leads-iteration}
use Rattle.cx_region_flags.proofs.all_paths_job.walk_iteration.Goals as goal

pub returns : goal.returns
returns c =
    on_ok c.walk_analysis.result _ _
    (λ l. leads-iteration c.args.job.now c.args.table.now c.rotate.new.table c.walk_bins.new.table
    c.walk_checkpoint.new.table c.walk_analysis.new.table c.rotate.ensures
    c.in_ok-walk_bins.ensures c.in_ok-walk_checkpoint.ensures l)
    c.walk_analysis.ensures
