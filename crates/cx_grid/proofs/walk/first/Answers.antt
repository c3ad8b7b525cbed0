use Rattle.std.proofs.Common.{refl, sym, ◌∙◌}
use Rattle.cx_grid.proofs.Points.{first_index, no_points}
use Rattle.cx_grid.proofs.walk.first.Goals as goal

pub returns-then-contains-clause-left : goal.returns-then-contains-clause-left
returns-then-contains-clause-left c = rw (first_index c.args.b.now) refl

pub returns-else-contains-clause-left : goal.returns-else-contains-clause-left
returns-else-contains-clause-left c =
    sym (no_points c.args.b.now (sym c.contains.ensures.value ∙ c.if-contains.false))
