use Rattle.std.proofs.Common.{◌-◌, refl, arith}
use Rattle.cx_bind.specs.Parameters.{is_shared_as}
use Rattle.cx_bind.proofs.PlaceLaws.{place_noted}
use Rattle.cx_bind.proofs.shared.shared_places.Goals as goal

pub places-preserved : goal.places-preserved
places-preserved c = record {
  within = omega arith;
  lead = place_noted is_shared_as c.args.knowns.now c.places.shared c.note_shared.new.shared
      c.index-knowns-place.result (c.places.place - 1)
      c.places.place c.index-knowns-place.result.full c.index-knowns-place.result.restricted
      (λ o. refl) (omega arith) (omega arith)
      c.index-knowns-place.is c.places.invariant.lead c.in_ok-note_shared.ensures;
}
