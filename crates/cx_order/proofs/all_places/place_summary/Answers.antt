-- From the last entry on, each stands before those that are known.
use Rattle.std.proofs.Common.{◌≡◌, ℕ, List, map, drop, length, Option, sym, subst, arith}
use Rattle.std.proofs.lemmas.List.{length-map, drop_all}
use Rattle.cx_order_entries.specs.Members.{entries_of}
use Rattle.cx_order.specs.Plans.{row_of, path_of}
use Rattle.cx_order_entries.specs.Seen.{seen_entry}
use Rattle.cx_order.specs.Summaries.{IsSummary, IsInside, AreInside, inside_at}
use Rattle.cx_order.proofs.SummedPlaces.{before-has, before-within, within-some, row-before}
use Rattle.cx_order.proofs.all_places.place_summary.Goals as goal

pub numbers-init : goal.numbers-init
numbers-init c = λ w path inside told known.
    let P : List ℕ → Type 0 =
    λ numbers. IsSummary w path
    (row_of inside path (entries_of (map seen_entry c.args.entries.now) numbers))
    c.nothing-summary.result in
    subst P
    (sym (drop_all c.len-at.result c.in_ok-numbers.numbers.items
    (omega (arith, c.len-at.ensures)))) (c.nothing-summary.ensures w path)

pub number_summary-requires-clause-entry : goal.number_summary-requires-clause-entry
number_summary-requires-clause-entry c =
    let size : c.len-at.result ≡ length c.in_ok-numbers.numbers.items =
    omega (arith, c.len-at.ensures) in
    let within = before-within (map seen_entry c.args.entries.now)
    c.args.placed.now c.args.place c.in_ok-numbers.numbers.items c.numbers.at c.len-at.result
    c.index.result.now c.requires.placed c.in_ok-numbers.ensures c.numbers-test.true
    c.numbers.auto.at size c.index.ensures in
    omega (arith, within, length-map c.args.entries.now seen_entry)

pub number_summary-requires-clause-meaning : goal.number_summary-requires-clause-meaning
number_summary-requires-clause-meaning c =
    let size : c.len-at.result ≡ length c.in_ok-numbers.numbers.items =
    omega (arith, c.len-at.ensures) in
    let within = before-within (map seen_entry c.args.entries.now)
    c.args.placed.now c.args.place c.in_ok-numbers.numbers.items c.numbers.at c.len-at.result
    c.index.result.now c.requires.placed c.in_ok-numbers.ensures c.numbers-test.true
    c.numbers.auto.at size c.index.ensures in
    let same = c.requires.meanings in
    omega (arith, within, length-map c.args.entries.now seen_entry, same)

pub numbers-preserved : goal.numbers-preserved
numbers-preserved c =
    λ w path inside told known.
    let es = map seen_entry c.args.entries.now in
    let i = c.index.result.now in
    let size : c.len-at.result ≡ length c.in_ok-numbers.numbers.items =
    omega (arith, c.len-at.ensures) in
    let there = before-has c.in_ok-numbers.numbers.items c.numbers.at c.len-at.result i
    c.numbers-test.true c.numbers.auto.at size c.index.ensures in
    let within = before-within es c.args.placed.now c.args.place c.in_ok-numbers.numbers.items
    c.numbers.at c.len-at.result i c.requires.placed c.in_ok-numbers.ensures c.numbers-test.true
    c.numbers.auto.at size c.index.ensures in
    let entry = within-some es i within in
    let e = entry.0 in
    let P : List (Option ℕ)
    → Type 0 = λ places. IsInside w (path_of path e) (inside e (path_of path e))
    (inside_at places c.args.table.now i) in
    row-before w es path inside c.in_ok-numbers.numbers.items c.numbers.at i e c.in_ok-first.first
    (record { sizes = c.numbers.summary.0; fault = c.numbers.summary.1.0 })
    c.before-summary.result c.numbers-test.true
    (let high = c.numbers.auto.at in omega (arith, high, size)) c.index.ensures entry.1
    (λ inner f behind. c.before-summary.ensures w path e inner f behind)
    (c.in_ok-first.ensures w path e (inside e (path_of path e)) told entry.1
    (subst P (sym c.as_slice-places.ensures) (known i e there entry.1)))
    (c.numbers.invariant w path inside told known)

pub returns : goal.returns
returns c =
    λ w path inside told known.
    let numbers = c.in_ok-numbers.ensures in
    let P : List ℕ → Type 0 =
    λ ns. AreInside w (map seen_entry c.args.entries.now)
    c.args.placed.now.inside c.args.table.now path inside ns in
    let Q : List ℕ → Type 0 =
    λ ns. IsSummary w path
    (row_of inside path (entries_of (map seen_entry c.args.entries.now) ns))
    (record { sizes = c.numbers.summary.0; fault = c.numbers.summary.1.0 }) in
    let R : ℕ → Type 0 = λ at. Q (drop at c.in_ok-numbers.numbers.items) in
    let none : c.numbers.at ≡ 0 = (let low = c.numbers-test.false in omega (arith, low)) in
    subst Q numbers (subst R none
    (c.numbers.invariant w path inside told (subst P (sym numbers) known)))
