use Rattle.std.proofs.Common.{◌≡◌}
use Rattle.std.specs.List.{range_with_len}
use Rattle.cx_job.specs.Caps.{part_points}
use Rattle.cx_job.specs.LocalCells.{greatest}
use Rattle.cx_job.proofs.caps.greatest_part.Given as goal

abbrev pub invariant-parts : goal.invariant-parts
invariant-parts l = l.most ≡ greatest (part_points l.cut) (range_with_len 0 l.part)
