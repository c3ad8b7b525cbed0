use Rattle.std.proofs.Common.{◌∙◌, sym, ap, subst, ℕ, ◌<◌, List, length, Option}
use Rattle.std.specs.Prelude.{IfSome}
use Rattle.std.specs.List.{filter_map, slice_get}
use Rattle.std.proofs.lemmas.List.{length-map}
use Rattle.cx_order_least.specs.Links.{row}
use Rattle.cx_order_entries.specs.PlaceNumbers.{place_count}
use Rattle.cx_order_entries.specs.Seen.{seen_entry}
use Rattle.cx_order.specs.PlanSteps.{entries_in, ordered}
use Rattle.cx_order.proofs.MemberLaws.{members_ordered, members_within}
use Rattle.cx_order.proofs.planning.Source.members.Goals as goal

pub returns-in_ok-picked_numbers-in-Some-clause-entries : goal.returns-in_ok-picked_numbers-in-Some-clause-entries
returns-in_ok-picked_numbers-in-Some-clause-entries c =
    let p = c.args.self.now.placed.now in
    let es = entries_in c.args.self.now in
    let k = c.in-Some.place in
    let within : k < place_count es =
    subst (λ (o : Option ℕ). IfSome o (λ k. k < place_count es))
    c.in-Some.is c.requires.place in
    members_ordered es p k c.in_ok-picked_numbers-in-Some.field-0.items c.requires.source.placed
    within
    (c.in_ok-picked_numbers-in-Some.ensures
    ∙ (ap (λ (ms : List ℕ). filter_map (λ j. slice_get ms j) c.row-order.result.now)
    c.row-members.ensures
    ∙ ap (λ (ks : List ℕ). filter_map (λ j. slice_get (row p.members k) j) ks) c.row-order.ensures))
    ∙ ap (ordered es p.orders) (sym c.in-Some.is)

pub returns-in_ok-picked_numbers-in-Some-clause-within : goal.returns-in_ok-picked_numbers-in-Some-clause-within
returns-in_ok-picked_numbers-in-Some-clause-within c =
    let p = c.args.self.now.placed.now in
    let xs = c.args.self.now.entries.now in
    let k = c.in-Some.place in
    members_within (entries_in c.args.self.now) p k (length xs)
    c.in_ok-picked_numbers-in-Some.field-0.items c.requires.source.placed
    (sym (length-map xs seen_entry))
    (c.in_ok-picked_numbers-in-Some.ensures
    ∙ (ap (λ (ms : List ℕ). filter_map (λ j. slice_get ms j) c.row-order.result.now)
    c.row-members.ensures
    ∙ ap (λ (ks : List ℕ). filter_map (λ j. slice_get (row p.members k) j) ks) c.row-order.ensures))
