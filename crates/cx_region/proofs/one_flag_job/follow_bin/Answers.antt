use Rattle.std.proofs.Common.{◌≤◌, length, rules}
use Rattle.cx_plan.specs.Bins.{bin_number}
use Rattle.cx_plan.specs.Setups.{setup_of}
use Rattle.cx_plan.specs.Lookups.{bin}
use Rattle.cx_plan.specs.Paths.{Path}
use Rattle.cx_region.specs.declared.one_flag_tree.Rounds.TheVariants.{Settled}
use Rattle.cx_region.specs.OneFlag.{GoesBy}
use Rattle.cx_region.proofs.OneFlagLaws.{goes-all}
use Rattle.cx_region.proofs.OneFlagJobLaws.{goes-no_bin}
use Rattle.cx_region.proofs.one_flag_job.follow_bin.Goals as goal

pub returns-in-Some-clause-goes : goal.returns-in-Some-clause-goes
returns-in-Some-clause-goes c =
    let job = c.args.job.now in
    let Q = Path (bin (setup_of job) (bin_number c.args.bin)) in
    let g : GoesBy job Settled c.args.followed Q c.args.ways.items c.follow_tree.result =
    search rules in
    goes-all job c.args.followed Q c.args.ways.items c.follow_tree.result g

pub returns-in-None-clause-goes : goal.returns-in-None-clause-goes
returns-in-None-clause-goes c =
    let past : length c.args.job.now.plan.bins ≤ bin_number c.args.bin = search rules in
    goes-no_bin c.args.job.now c.args.followed (bin_number c.args.bin) c.args.ways past
