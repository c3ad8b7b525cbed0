use Rattle.std.proofs.Common.{rules, SFits, w64, to_z-of_z}
use Rattle.cx_rule.specs.Rows.{seen_row}
use Rattle.cx_thorn_ca.proofs.LifeLaws.{amid_row}
use Rattle.cx_thorn_ca.proofs.life_step.put_amid.Goals as goal

pub returns-clause-numbers : goal.returns-clause-numbers
returns-clause-numbers c =
    let survive : SFits w64 c.param.result = search rules in
    let born : SFits w64 c.param-2.result = search rules in
    let cells = rw (to_z-of_z survive, to_z-of_z born) at c.next_amid.ensures.cells in
    amid_row (seen_row c.args.row.now)
    c.param.result c.param-2.result _ _ _ _ _ c.requires.fits c.requires.sheet
    c.param.ensures c.param-2.ensures c.along-below.ensures c.along.ensures c.along-above.ensures
    c.requires.count cells
