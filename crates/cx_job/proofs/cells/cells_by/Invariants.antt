use Rattle.std.proofs.Common.{◌≡◌}
use Rattle.std.specs.Prelude.{sum_by}
use Rattle.std.specs.List.{range_with_len}
use Rattle.cx_job.specs.LocalCells.{part_cells}
use Rattle.cx_job.proofs.cells.cells_by.Given as goal
use Rattle.cx_text.specs.Numbers.{in_64_bits}

abbrev pub invariant-parts : goal.invariant-parts
invariant-parts l = l.cells
    ≡ in_64_bits (sum_by (part_cells l.cut l.each l.window) (range_with_len 0 l.part))
