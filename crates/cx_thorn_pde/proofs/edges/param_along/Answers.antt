use Rattle.std.proofs.Common.{rules, SFits, w64, to_z-of_z}
use Rattle.cx_rule.specs.Rows.{seen_row}
use Rattle.cx_thorn_pde.proofs.EdgeLaws.{param_row}
use Rattle.cx_thorn_pde.proofs.edges.param_along.Goals as goal

pub returns-clause-numbers : goal.returns-clause-numbers
returns-clause-numbers c =
    let fits : SFits w64 c.param.result = search rules in
    param_row (seen_row c.args.row.now)
    c.param.result c.put_everywhere.new.out _ c.param.ensures c.requires.count
    (rw (to_z-of_z fits) at c.put_everywhere.ensures.numbers)
