-- each cell that was passed is within the other
use Rattle.std.proofs.Common.{◌≡◌, ℕ, ◌<◌, true}
use Rattle.cx_region_flags.specs.Cells.{cell}
use Rattle.cx_region_flags.specs.AllPaths.{is_within}
use Rattle.cx_region_flags.proofs.flag_table.FlagTable.is_below.Given as goal

abbrev pub invariant-loop-place : goal.invariant-loop-place
invariant-loop-place l = (k : ℕ) → k < l.place → is_within (cell l.self k) (cell l.other k) ≡ true
