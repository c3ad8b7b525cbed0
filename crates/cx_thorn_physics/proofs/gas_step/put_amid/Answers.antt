use Rattle.cx_rule.specs.Rows.{seen_row}
use Rattle.cx_thorn_physics.proofs.GasRows.{amid_row}
use Rattle.cx_thorn_physics.proofs.gas_step.put_amid.Goals as goal

pub returns-clause-numbers : goal.returns-clause-numbers
returns-clause-numbers c =
    amid_row (seen_row c.args.row.now) _ _ _ _ _ c.requires.fits c.requires.sheet
    c.along-below.ensures c.along.ensures c.along-above.ensures c.requires.count
    c.next_row.ensures.cells
