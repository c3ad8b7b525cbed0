use Rattle.cx_several.proofs.cells.check_owned.Goals as goal

pub returns : goal.returns
returns c = c.check.ensures _ c.owned_by_all.ensures
