use Rattle.cx_region_flags.proofs.AllPathsLaws.{on_ok}
use Rattle.cx_region_flags.proofs.AllPathsJobLaws.{leads-analysis}
use Rattle.cx_region_flags.proofs.all_paths_job.walk_analysis.Goals as goal

pub returns : goal.returns
returns c =
    on_ok c.output_if_any.result _ _
    (λ l. leads-analysis c.args.job.now c.args.table.now c.walk_bin.new.table c.walk_bin.new.table
    c.in_ok-walk_bin.ensures l)
    c.output_if_any.ensures
