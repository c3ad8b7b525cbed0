use Rattle.std.proofs.Common.{◌≡◌, ◌<◌, ◌++◌, ◌∷◌, [], ◌∙◌, ℕ, List, Ok, sym, ap, subst, map, length, arith}
use Rattle.std.proofs.lemmas.Result.{err_from_is_err_and}
use Rattle.std.specs.Str.{bytes_eq}
use Rattle.cx_plan.specs.Lists.{once}
use Rattle.cx_order_entries.specs.PlaceNumbers.{place, place_count}
use Rattle.cx_order_entries.specs.Members.{entries_of, key_name, IsOrdered}
use Rattle.cx_order_entries.specs.Seen.{seen_entry}
use Rattle.cx_order_entries.proofs.OrderLaws.{told-at, differ-at, sofar-next}
use Rattle.cx_order_entries.proofs.PlaceLaws.{least-all}
use Rattle.cx_order_entries.proofs.place_orders.orders_of.Goals as goal

pub order_at-requires-clause-differ : goal.order_at-requires-clause-differ
order_at-requires-clause-differ c =
    let es = map seen_entry c.args.entries.now in
    let size = c.len-place-end.ensures in
    let below = c.places-test.true in
    let within : c.places.place < length c.args.members.now = omega (arith, size, below) in
    let D : List ℕ → Type 0 =
    λ r. once bytes_eq (map key_name (entries_of es r)) ≡ map key_name (entries_of es r) in
    subst D (sym c.row.ensures)
    (differ-at es c.args.members.now c.requires.members c.requires.names c.places.place within)

pub returns-in_err-order : goal.returns-in_err-order
returns-in_err-order c =
    let es = map seen_entry c.args.entries.now in
    let size = c.len-place-end.ensures in
    let below = c.places-test.true in
    let within : c.places.place < length c.args.members.now = omega (arith, size, below) in
    let p = err_from_is_err_and c.from_residual-in_err-order.result
    c.from_residual-in_err-order.ensures.1 in
    rw (p.1, p.2)
    (told-at es (entries_of es c.row.result.now) (place es c.places.place) c.in_err-order.field-0.0
    (ap (entries_of es) c.row.ensures ∙ c.requires.members.entries c.places.place within)
    c.in_err-order.ensures)

pub places-preserved : goal.places-preserved
places-preserved c =
    let es = map seen_entry c.args.entries.now in
    let size = c.len-place-end.ensures in
    let below = c.places-test.true in
    let within : c.places.place < length c.args.members.now = omega (arith, size, below) in
    let T : List ℕ → Type 0 = λ r. IsOrdered (entries_of es r) (Ok c.in_ok-order.order) in
    sofar-next es c.args.members.now c.requires.members c.places.place c.places.orders
    c.push_row.new.self c.in_ok-order.order within
    (subst T c.row.ensures c.in_ok-order.ensures)
    (c.in_ok-push_row.ensures ∙ ap (λ r. c.places.orders ++ r ∷ []) c.into_vec.ensures)
    c.places.invariant

pub returns : goal.returns
returns c =
    let es = map seen_entry c.args.entries.now in
    let i = c.places.invariant in
    let size = c.len-place-end.ensures in
    let high = c.places-test.false in
    let low = c.places.auto.place-end in
    let all = c.requires.members.count in
    let count = i.count in
    let whole : c.places.place ≡ place_count es = omega (arith, size, high, low, all) in
    record {
      count = count ∙ whole;
      least = least-all es c.places.orders (λ k h. i.least k (omega (arith, h, whole)));
    }
