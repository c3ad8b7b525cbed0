use Rattle.std.proofs.Common.{refl, ◌∙◌, ap, ◌-◌, true, arith}
use Rattle.std.specs.Option.{option_copied}
use Rattle.std.specs.Str.{bytes_eq}
use Rattle.indexmap.specs.IndexMap.{insert_entry}
use Rattle.cx_bind.specs.NamePlaces.{at_name}
use Rattle.cx_bind.specs.Faults.{implements, told_by}
use Rattle.cx_bind.proofs.PlaceLaws.{place_noted}
use Rattle.cx_bind.proofs.NamedLaws.{one_told}
use Rattle.cx_bind.proofs.providers.first_repeated.Goals as goal
use Rattle.cx_text.specs.Bytes.{folded}

pub places-preserved : goal.places-preserved
places-preserved c = record {
  within = omega arith;
  lead =
      place_noted implements c.args.active.now c.places.places c.insert.new.self
      c.index-active-place.result (c.places.place - 1)
      c.places.place c.index-active-place.result.implementation true (λ o. refl) (omega arith)
      (omega arith) c.index-active-place.is c.places.invariant.lead
      (c.in_ok-insert.ensures.put
      ∙ ap (λ n. insert_entry bytes_eq c.places.places (folded n) (c.places.place - 1))
      c.as_slice-implementation.ensures);
  told =
      one_told c.args.active.now c.places.places c.index-active-place.result (c.places.place - 1)
      c.places.place (option_copied c.in_ok-other.other) (told_by c.places.pair)
      (told_by c.or_pair-pair.result) (omega arith) (omega arith)
      c.index-active-place.is c.places.invariant.lead
      (c.in_ok-other.ensures ∙ ap (λ n. at_name c.args.active.now c.places.places n)
      c.as_slice-implementation.ensures) c.places.invariant.told c.or_pair-pair.ensures;
}
