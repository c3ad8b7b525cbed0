use Rattle.cx_region_flags.proofs.AllPathsLaws.{on_ok}
use Rattle.cx_region_flags.proofs.AllPathsJobLaws.{leads-start}
use Rattle.cx_region_flags.proofs.all_paths_job.walk_start.Goals as goal

pub returns : goal.returns
returns c =
    on_ok c.walk_analysis.result _ _
    (λ l. leads-start c.args.job.now c.args.table.now c.walk_bins.new.table
    c.walk_analysis.new.table c.in_ok-walk_bins.ensures l)
    c.walk_analysis.ensures
