use Rattle.std.proofs.Common.{refl}
use Rattle.cx_plan.specs.Regions.{Rotates}
use Rattle.cx_region_flags.proofs.AllPathsLaws.{leads-act}
use Rattle.cx_region_flags.proofs.all_paths_step.rotate.Goals as goal

pub returns : goal.returns
returns c = leads-act c.args.job.now Rotates c.args.table.now c.rotate.new.self c.requires tt refl
    c.rotate.ensures
