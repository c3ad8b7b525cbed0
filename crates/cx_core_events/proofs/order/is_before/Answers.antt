use Rattle.std.proofs.Common.{◌∙◌, sym, ap, Some}
use Rattle.std.specs.Prelude.{slice_get}
use Rattle.cx_flat.specs.Ways.{key}
use Rattle.cx_core_events.specs.Paces.{are_in_order}
use Rattle.cx_core_events.proofs.OrderLaws.{less_is, get_some}
use Rattle.cx_core_events.proofs.order.is_before.Goals as goal

pub returns-in-Some-get : goal.returns-in-Some-get
returns-in-Some-get c =
    let one = get_some c.args.parts.now c.args.j c.in-Some.first.now c.in-Some.ensures.lookup.0
    c.in-Some.ensures.lookup.1 in
    let two = get_some c.args.parts.now c.args.k c.in-Some-get.second.now
    c.in-Some-get.ensures.lookup.0 c.in-Some-get.ensures.lookup.1 in
    less_is c.is_before.result (key c.in-Some.first.now.place) (key c.in-Some-get.second.now.place)
    c.is_before.ensures
    ∙ sym (ap (λ x. are_in_order x (slice_get c.args.parts.now c.args.k)) one
    ∙ ap (λ y. are_in_order (Some c.in-Some.first.now) y) two)
