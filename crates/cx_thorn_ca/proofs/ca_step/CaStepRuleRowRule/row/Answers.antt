use Rattle.std.proofs.Common.{rules, SFits, w64, to_z-of_z}
use Rattle.cx_rule.specs.Rows.{seen_row}
use Rattle.cx_thorn_ca.proofs.RowLaws.{ca_row}
use Rattle.cx_thorn_ca.proofs.ca_step.CaStepRuleRowRule.row.Goals as goal

pub returns-clause-numbers : goal.returns-clause-numbers
returns-clause-numbers c =
    let fits : SFits w64 c.param.result = search rules in
    let cells = rw (to_z-of_z fits) at c.next_row.ensures.cells in
    ca_row (seen_row c.args.row.now)
    c.param.result _ _ _ c.requires.fits c.param.ensures c.along.ensures c.requires.count cells
