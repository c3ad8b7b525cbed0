-- the first of those that are left is the first of all
use Rattle.std.proofs.Common.{◌≡◌, drop}
use Rattle.std.specs.List.{flat_map}
use Rattle.cx_plan.specs.Setups.{setup_of}
use Rattle.cx_plan.specs.Regions.{output_needs}
use Rattle.cx_region_flags.specs.Cells.{flags_in}
use Rattle.cx_region_flags.specs.Unmet.{first_unmet_of}
use Rattle.cx_region_flags.proofs.unmet.unmet_of_variables.Given as goal

abbrev pub invariant-variables : goal.invariant-variables
invariant-variables l =
    first_unmet_of (setup_of l.job) (flags_in l.table)
    (flat_map (output_needs (setup_of l.job)) (drop l.variable-index l.variables))
    ≡ first_unmet_of (setup_of l.job) (flags_in l.table)
    (flat_map (output_needs (setup_of l.job)) l.variables)
