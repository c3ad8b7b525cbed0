use Rattle.std.proofs.Common.{rules, refl}
use Rattle.cx_thorn_pde.proofs.RowLaws.{one_more}
use Rattle.cx_thorn_pde.proofs.edges.put_everywhere.Goals as goal

pub places-preserved : goal.places-preserved
places-preserved c = (
  search rules,
  one_more _ c.places.out c.places.i _ (search rules) refl c.places.invariant.1,
)
