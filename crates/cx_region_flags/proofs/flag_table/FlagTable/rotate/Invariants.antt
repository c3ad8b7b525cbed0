-- the cells from the place on are rotated
use Rattle.cx_plan.specs.Setups.{setup_of}
use Rattle.cx_region_flags.proofs.TableLaws.{Rotating}
use Rattle.cx_region_flags.proofs.flag_table.FlagTable.rotate.Given as goal

abbrev pub invariant-loop-place : goal.invariant-loop-place
invariant-loop-place l = Rotating (setup_of l.job) l.fn.self l.self l.place

abbrev pub decreases-loop-place : goal.decreases-loop-place
decreases-loop-place l = l.place
