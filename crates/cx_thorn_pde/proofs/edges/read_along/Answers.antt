use Rattle.std.proofs.Common.{subst, sym}
use Rattle.cx_rule.specs.Rows.{seen_row, GivesRow}
use Rattle.cx_rule.specs.Single.{read_rule}
use Rattle.cx_thorn_pde.proofs.EdgeLaws.{read_row}
use Rattle.cx_thorn_pde.proofs.edges.read_along.Goals as goal

pub returns-clause-numbers : goal.returns-clause-numbers
returns-clause-numbers c =
    subst (λ ns. GivesRow read_rule (seen_row c.args.row.now) ns)
    (sym c.copy_from_slice.ensures.after)
    (read_row (seen_row c.args.row.now) c.along.result.now c.requires.reach c.along.ensures)
