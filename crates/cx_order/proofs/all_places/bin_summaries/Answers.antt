-- One bin more.
use Rattle.std.proofs.Common.{◌≡◌, ◌∙◌, inl, inr, ℕ, List, [], ◌∷◌, ◌++◌, map, length, sym, ap, subst, arith, length-append}
use Rattle.std.specs.List.{slice_get}
use Rattle.cx_order.specs.declared.summary.Summary.{Summary}
use Rattle.cx_plan.specs.Lookups.{bin_name}
use Rattle.cx_order_entries.specs.PlaceNumbers.{orders_by}
use Rattle.cx_plan.specs.Lookups.{bin_count}
use Rattle.cx_order.specs.Plans.{bin_forest}
use Rattle.cx_order_entries.specs.Seen.{seen_entry}
use Rattle.cx_order.specs.Summaries.{IsSummary, AreInside, numbers_at}
use Rattle.cx_order.proofs.SummedPlaces.{get-push, bin-known, all-bins}
use Rattle.cx_order.proofs.all_places.bin_summaries.Goals as goal

pub bins-preserved : goal.bins-preserved
bins-preserved c =
    let es = map seen_entry c.args.entries.now in
    let bins = c.bins.bins.items in
    let last = c.in_ok-place_summary.field-0 in
    let pushed : c.push.new.self.items ≡ bins ++ last ∷ [] = c.in_ok-push.ensures.items in
    let size = c.bins.invariant.size in
    record {
      size = omega (arith, size, ap length pushed, length-append bins (last ∷ []));
      known =
          λ w told b s at.
          let B : ℕ → Summary → Type 0 =
          λ b s. IsSummary w (bin_name b)
          (bin_forest es (orders_by es c.args.placed.now.orders) b) s in
          elim (get-push bins last s b
          (ap (λ (ss : List Summary). slice_get ss b) (sym pushed) ∙ at)) [
            | inl there ↦ c.bins.invariant.known w told b s there
            | inr new ↦ (let same : c.bins.bin ≡ b = (let e = new.0 in omega (arith, e, size)) in
                let P : ℕ → Type 0 = λ b. B b s in
                subst P same
                (subst (B c.bins.bin) new.1
                (bin-known w es c.args.placed.now c.requires.placed c.in_ok-table.table.items
                c.bins.bin last c.in_ok-table.ensures.size c.bins-test.true
                (c.in_ok-table.ensures.known w told)
                (λ path inside known.
                let I : List Summary
                → Type 0 = λ table.
                AreInside w es c.args.placed.now.inside table path inside
                (numbers_at c.args.placed.now c.bins.bin) in
                c.in_ok-place_summary.ensures w path inside told
                (subst I (sym c.deref.ensures.value) known)))))
          ];
    }

pub returns : goal.returns
returns c =
    λ w told.
    let size = c.bins.invariant.size in
    let low = c.bins-test.false in
    let high = c.bins.auto.bin-end in
    let whole : length c.bins.bins.items ≡ bin_count = omega (arith, size, low, high) in
    all-bins w (map seen_entry c.args.entries.now) c.args.placed.now.orders c.bins.bins.items whole
    (c.bins.invariant.known w told)
