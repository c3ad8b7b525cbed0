use Rattle.cx_plan.specs.Bins.{bin_number}
use Rattle.cx_plan.specs.Setups.{setup_of}
use Rattle.cx_plan.specs.Lookups.{bin}
use Rattle.cx_plan.specs.Paths.{Path}
use Rattle.cx_region.proofs.OneFlagLaws.{goes-behind-letter}
use Rattle.cx_region.proofs.one_flag_job.follow_taken.Goals as goal

pub returns-clause-goes : goal.returns-clause-goes
returns-clause-goes c =
    goes-behind-letter c.args.job.now c.args.followed c.args.letter
    (Path (bin (setup_of c.args.job.now) (bin_number c.args.bin)))
    c.args.ways.now c.in_ok-taken.taken.items c.follow_bin.result c.in_ok-taken.ensures
    c.follow_bin.ensures.goes
