use Rattle.std.proofs.Common.{◌∙◌, ap, ◌+◌}
use Rattle.cx_job.specs.LocalCells.{part_cells}
use Rattle.cx_job.proofs.LocalCellLaws.{sum_more}
use Rattle.cx_job.proofs.cells.cells_by.Goals as goal
use Rattle.cx_text.specs.Numbers.{in_64_bits}

pub parts-preserved : goal.parts-preserved
parts-preserved c =
    c.saturating_add-cells.ensures
    ∙ ap (λ n. in_64_bits (c.parts.cells + n)) c.part_cells.ensures
    ∙ sum_more (part_cells c.args.cut.now c.args.each c.args.window)
    c.parts.part c.parts.cells c.parts.invariant
