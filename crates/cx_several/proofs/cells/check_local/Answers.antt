use Rattle.cx_several.proofs.cells.check_local.Goals as goal

pub returns : goal.returns
returns c = c.check.ensures _ c.in_ok-cells.ensures
