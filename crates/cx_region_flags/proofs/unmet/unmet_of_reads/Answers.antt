use Rattle.std.specs.List.{flat_map}
use Rattle.cx_plan.specs.Setups.{setup_of}
use Rattle.cx_plan.specs.Regions.{needs_of_read}
use Rattle.cx_region_flags.specs.Cells.{flags_in}
use Rattle.cx_region_flags.specs.Unmet.{seen, is_unmet, first_unmet_of}
use Rattle.cx_region_flags.proofs.UnmetLaws.{first_here, first_later}
use Rattle.cx_region_flags.proofs.unmet.unmet_of_reads.Goals as goal

pub returns-in-Some : goal.returns-in-Some
returns-in-Some c =
    let setup = setup_of c.args.job.now in
    let set = flags_in c.args.table.now in
    let test = is_unmet setup set in
    let F = needs_of_read setup c.args.item.now in
    first_here test F c.args.reads.now c.reads.read-index _ (seen c.in-Some.unmet)
    (first_unmet_of setup set (flat_map F c.args.reads.now))
    c.reads-test.true c.in-Some.ensures c.reads.invariant

pub reads-preserved : goal.reads-preserved
reads-preserved c =
    let setup = setup_of c.args.job.now in
    let set = flags_in c.args.table.now in
    let test = is_unmet setup set in
    let F = needs_of_read setup c.args.item.now in
    first_later test F c.args.reads.now c.reads.read-index _
    (first_unmet_of setup set (flat_map F c.args.reads.now))
    c.reads-test.true c.in_default.ensures c.reads.invariant
