-- what is left to exchange leaves what all exchanges leave
use Rattle.std.proofs.Common.{drop}
use Rattle.cx_plan.specs.Regions.{exchanged}
use Rattle.cx_region_flags.proofs.TableLaws.{Passed}
use Rattle.cx_region_flags.proofs.flag_table.FlagTable.exchange.Given as goal

abbrev pub invariant-variables : goal.invariant-variables
invariant-variables l = Passed exchanged l.fn.self l.self l.variables
    (drop l.variable-index l.variables)
