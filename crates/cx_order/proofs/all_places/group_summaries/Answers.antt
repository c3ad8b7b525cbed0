-- A group is looked at behind those that it contains.
use Rattle.std.proofs.Common.{◌≡◌, ◌∙◌, ℕ, map, drop, length, ap, subst, arith}
use Rattle.cx_order_entries.specs.Seen.{seen_entry}
use Rattle.cx_order.specs.Summaries.{AreGroupSummaries}
use Rattle.cx_order.proofs.SummedPlaces.{as-many, place-below, no-groups, next-turn}
use Rattle.cx_order.proofs.all_places.group_summaries.Goals as goal

pub groups-init : goal.groups-init
groups-init c =
    let es = map seen_entry c.args.entries.now in
    record {
      size = c.in_ok-table.ensures
          ∙ as-many es c.args.placed.now c.requires.placed c.as_slice-groups.result.now
          c.as_slice-groups.ensures;
      known = λ w told. no-groups w es c.args.placed.now c.requires.placed c.in_ok-table.table.items
          (length c.as_slice-groups.result.now)
          (omega (arith, ap length c.as_slice-groups.ensures));
    }

pub overflow_add-place : goal.overflow_add-place
overflow_add-place c =
    let below = place-below (map seen_entry c.args.entries.now)
    c.args.placed.now c.requires.placed c.as_slice-groups.result.now c.as_slice-groups.ensures
    c.groups.at c.groups-test.true c.groups.auto.at in
    let size = c.groups.invariant.size in
    let small = c.groups.table.small in
    omega (arith, below, size, small)

pub place_summary-requires-clause-place : goal.place_summary-requires-clause-place
place_summary-requires-clause-place c =
    place-below (map seen_entry c.args.entries.now)
    c.args.placed.now c.requires.placed c.as_slice-groups.result.now c.as_slice-groups.ensures
    c.groups.at c.groups-test.true c.groups.auto.at

pub index_mut-requires : goal.index_mut-requires
index_mut-requires c =
    let below = place-below (map seen_entry c.args.entries.now)
    c.args.placed.now c.requires.placed c.as_slice-groups.result.now c.as_slice-groups.ensures
    c.groups.at c.groups-test.true c.groups.auto.at in
    let size = c.groups.invariant.size in
    omega (arith, below, size)

pub groups-preserved-in_ok-table-2 : goal.groups-preserved-in_ok-table-2
groups-preserved-in_ok-table-2 c =
    next-turn c.args.meanings.now (map seen_entry c.args.entries.now)
    c.args.placed.now c.groups.table.items c.deref.result.now c.as_slice-groups.result.now
    c.groups.at c.in_ok-table-2.field-0 c.requires.placed c.as_slice-groups.ensures
    c.groups-test.true c.groups.auto.at c.deref.ensures.value c.groups.invariant
    c.in_ok-table-2.ensures

pub groups-preserved : goal.groups-preserved
groups-preserved c =
    next-turn c.args.meanings.now (map seen_entry c.args.entries.now)
    c.args.placed.now c.groups.table.items c.deref.result.now c.as_slice-groups.result.now
    c.groups.at c.in_ok-table-2.field-0 c.requires.placed c.as_slice-groups.ensures
    c.groups-test.true c.groups.auto.at c.deref.ensures.value c.groups.invariant
    c.in_ok-table-2.ensures

pub returns-clause-known : goal.returns-clause-known
returns-clause-known c =
    λ w told.
    let none : c.groups.at ≡ 0 = (let low = c.groups-test.false in omega (arith, low)) in
    let G : ℕ → Type 0 = λ at.
    AreGroupSummaries w (map seen_entry c.args.entries.now)
    c.args.placed.now c.groups.table.items (drop at c.args.placed.now.nested) in
    subst G none (c.groups.invariant.known w told)
