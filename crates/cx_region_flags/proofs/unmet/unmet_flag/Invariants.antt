-- the first of those that are left is the first of all
use Rattle.std.proofs.Common.{◌≡◌, map, drop}
use Rattle.cx_plan.specs.Setups.{setup_of}
use Rattle.cx_region_flags.specs.Cells.{flags_in}
use Rattle.cx_region_flags.specs.Unmet.{first_unmet_of}
use Rattle.cx_region_flags.proofs.unmet.unmet_flag.Given as goal

abbrev pub invariant-flags : goal.invariant-flags
invariant-flags l =
    first_unmet_of (setup_of l.job) (flags_in l.table)
    (map (λ f. record { place = l.place; var = l.variable; level = l.level; flag = f })
    (drop l.flag-index l.flags))
    ≡ first_unmet_of (setup_of l.job) (flags_in l.table)
    (map (λ f. record { place = l.place; var = l.variable; level = l.level; flag = f }) l.flags)
