-- the cells before the place are met
use Rattle.cx_region_flags.proofs.MeetLaws.{Meeting}
use Rattle.cx_region_flags.proofs.flag_table.FlagTable.meet.Given as goal

abbrev pub invariant-loop-place : goal.invariant-loop-place
invariant-loop-place l = Meeting l.fn.self l.other l.self l.place
