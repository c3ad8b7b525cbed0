use Rattle.cx_rule.specs.Rows.{seen_row}
use Rattle.cx_thorn_physics.proofs.GasRows.{alone_row}
use Rattle.cx_thorn_physics.proofs.gas_step.put_alone.Goals as goal

pub returns-clause-numbers : goal.returns-clause-numbers
returns-clause-numbers c =
    alone_row (seen_row c.args.row.now) _ _ _ c.requires.fits c.requires.line
    c.along-cells.ensures c.requires.count c.next_row.ensures.cells
