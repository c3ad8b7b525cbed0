use Rattle.std.proofs.Common.{subst, List}
use Rattle.cx_plan.specs.Setups.{setup_of}
use Rattle.cx_plan.specs.Lookups.{bin, CHECKPOINT}
use Rattle.cx_plan.specs.Paths.{Path}
use Rattle.cx_region_flags.specs.declared.flags.LevelFlags.{LevelFlags}
use Rattle.cx_region_flags.specs.AllPaths.{Leads}
use Rattle.cx_region_flags.proofs.AllPathsJobLaws.{leads-checkpoint}
use Rattle.cx_region_flags.proofs.all_paths_job.walk_checkpoint.Goals as goal

pub returns : goal.returns
returns c =
    let job = c.args.job.now in
    let behind = c.walk_bin.new.table in
    let body =
    subst (λ (cells : List LevelFlags).
    Leads job (Path (bin (setup_of job) CHECKPOINT)) cells behind)
    c.in_ok-behind.ensures c.in_ok-walk_bin.ensures in
    leads-checkpoint job c.args.table.now behind c.meet.new.self body c.meet.ensures
