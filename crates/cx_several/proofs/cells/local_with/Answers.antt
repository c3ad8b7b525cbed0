use Rattle.cx_job.specs.LocalCells.{local_cells}
use Rattle.cx_several.proofs.CellLaws.{sum_held}
use Rattle.cx_several.proofs.cells.local_with.Goals as goal

pub returns : goal.returns
returns c = λ jobs more.
    sum_held local_cells c.args.job.now jobs _ _ _ c.in_ok-cells.ensures more
    c.saturating_add.ensures
