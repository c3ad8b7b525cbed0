use Rattle.std.proofs.Common.{rules, Some, ◌∙◌, ap, sym, SFits, w64, to_z-of_z}
use Rattle.cx_thorn_pde.proofs.RowLaws.{one_more}
use Rattle.cx_thorn_pde.proofs.rows_around.RowsAround.put_exact.Goals as goal

pub places-preserved : goal.places-preserved
places-preserved c =
    let fits : SFits w64 c.in-Some.number = search rules in (
      search rules,
      one_more _ c.places.out c.places.i _ (search rules)
          (ap Some (to_z-of_z fits) ∙ sym c.in-Some.is ∙ c.next_at.ensures) c.places.invariant.1,
    )
