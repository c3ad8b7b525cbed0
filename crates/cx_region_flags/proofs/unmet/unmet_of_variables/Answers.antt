use Rattle.std.specs.List.{flat_map}
use Rattle.cx_plan.specs.Setups.{setup_of}
use Rattle.cx_plan.specs.Regions.{output_needs}
use Rattle.cx_region_flags.specs.Cells.{flags_in}
use Rattle.cx_region_flags.specs.Unmet.{seen, is_unmet, first_unmet_of}
use Rattle.cx_region_flags.proofs.UnmetLaws.{first_here, first_later}
use Rattle.cx_region_flags.proofs.unmet.unmet_of_variables.Goals as goal

pub returns-in-Some : goal.returns-in-Some
returns-in-Some c =
    let setup = setup_of c.args.job.now in
    let set = flags_in c.args.table.now in
    let F = output_needs setup in
    first_here (is_unmet setup set) F c.args.variables.now c.variables.variable-index _
    (seen c.in-Some.unmet) (first_unmet_of setup set (flat_map F c.args.variables.now))
    c.variables-test.true c.in-Some.ensures c.variables.invariant

pub variables-preserved : goal.variables-preserved
variables-preserved c =
    let setup = setup_of c.args.job.now in
    let set = flags_in c.args.table.now in
    let F = output_needs setup in
    first_later (is_unmet setup set) F c.args.variables.now c.variables.variable-index _
    (first_unmet_of setup set (flat_map F c.args.variables.now))
    c.variables-test.true c.in_default.ensures c.variables.invariant
