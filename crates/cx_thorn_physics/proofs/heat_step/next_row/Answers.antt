use Rattle.std.proofs.Common.{rules, Some, ◌∙◌, ap, sym, SFits, w64, to_z-of_z}
use Rattle.cx_thorn_physics.proofs.HeatRows.{one_given}
use Rattle.cx_thorn_physics.proofs.heat_step.next_row.Goals as goal

pub places-preserved : goal.places-preserved
places-preserved c =
    let fits : SFits w64 c.in-Some.number = search rules in (
      search rules,
      one_given _ c.places.out c.places.i _ (search rules)
          (ap Some (to_z-of_z fits) ∙ sym c.in-Some.is ∙ c.heat_at.ensures) c.places.invariant.1,
    )
