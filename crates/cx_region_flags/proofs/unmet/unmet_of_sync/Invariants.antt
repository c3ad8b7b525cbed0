-- the first of those that are left is the first of all
use Rattle.std.proofs.Common.{◌≡◌, map, drop}
use Rattle.cx_plan.specs.declared.flag.Flag.TheVariants.{I}
use Rattle.cx_plan.specs.Setups.{setup_of}
use Rattle.cx_region_flags.specs.Cells.{flags_in}
use Rattle.cx_region_flags.specs.Unmet.{first_unmet_of}
use Rattle.cx_region_flags.proofs.unmet.unmet_of_sync.Given as goal

abbrev pub invariant-variables : goal.invariant-variables
invariant-variables l =
    first_unmet_of (setup_of l.job) (flags_in l.table)
    (map (λ v. record { place = l.path; var = v; level = 0; flag = I })
    (drop l.variable-index l.variables))
    ≡ first_unmet_of (setup_of l.job) (flags_in l.table)
    (map (λ v. record { place = l.path; var = v; level = 0; flag = I }) l.variables)
