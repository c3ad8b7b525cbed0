use Rattle.std.proofs.Common.{rules, Some, ◌∙◌, ap, SFits, w64, to_z-of_z}
use Rattle.cx_thorn_pde.proofs.RowLaws.{one_more}
use Rattle.cx_thorn_pde.proofs.rows_around.RowsAround.put_near.Goals as goal

pub places-preserved : goal.places-preserved
places-preserved c =
    let fits : SFits w64 c.plain_at.result = search rules in (
      search rules,
      one_more _ c.places.out c.places.i _ (search rules)
          (ap Some (to_z-of_z fits) ∙ c.plain_at.ensures) c.places.invariant.1,
    )
