-- what is left to write leaves what all writes leave
use Rattle.std.proofs.Common.{drop}
use Rattle.cx_plan.specs.Setups.{setup_of}
use Rattle.cx_plan.specs.Regions.{all_written}
use Rattle.cx_region_flags.proofs.TableLaws.{Passed}
use Rattle.cx_region_flags.proofs.flag_table.FlagTable.write_all.Given as goal

abbrev pub invariant-writes : goal.invariant-writes
invariant-writes l = Passed (all_written (setup_of l.job)) l.fn.self l.self l.writes
    (drop l.write-index l.writes)
