-- the first of those that are left is the first of all
use Rattle.std.proofs.Common.{◌≡◌, drop}
use Rattle.std.specs.List.{flat_map}
use Rattle.cx_plan.specs.Setups.{setup_of}
use Rattle.cx_plan.specs.Regions.{needs_of_read}
use Rattle.cx_region_flags.specs.Cells.{flags_in}
use Rattle.cx_region_flags.specs.Unmet.{first_unmet_of}
use Rattle.cx_region_flags.proofs.unmet.unmet_of_reads.Given as goal

abbrev pub invariant-reads : goal.invariant-reads
invariant-reads l =
    first_unmet_of (setup_of l.job) (flags_in l.table)
    (flat_map (needs_of_read (setup_of l.job) l.item) (drop l.read-index l.reads))
    ≡ first_unmet_of (setup_of l.job) (flags_in l.table)
    (flat_map (needs_of_read (setup_of l.job) l.item) l.reads)
