use Rattle.std.proofs.Common.{◌∙◌, sym, ap, refl, Some}
use Rattle.cx_plan.specs.declared.tree.Tree.{Seq}
use Rattle.cx_order.specs.declared.planning.Made.{Made}
use Rattle.cx_plan.specs.Lookups.{bin_name}
use Rattle.cx_order_entries.specs.PlaceNumbers.{place_count}
use Rattle.cx_order.specs.Plans.{bin_forest}
use Rattle.cx_order.specs.PlanSteps.{world_in, entries_in, orders_in, contents_at}
use Rattle.cx_order.proofs.PlanLaws.{bin-made}
use Rattle.cx_order.proofs.MemberLaws.{bin_contents}
use Rattle.cx_order.proofs.planning.plan_bin.Goals as goal

pub returns : goal.returns
returns c =
    let s = c.args.source.now in
    let es = entries_in s in
    let rows = s.placed.now.orders in
    let b = c.args.bin in
    let path = c.in_ok-path.path in
    let places = c.len-places.result in
    let mid : Made = record { items = c.args.made.now.items; text = c.push_bin.new.text } in
    bin-made (world_in s) b (bin_forest es (orders_in s) b)
    (contents_at places es rows path (Some b))
    c.args.made.now mid c.plan_place.new.made c.in_ok-trees.trees.items (Seq c.new.result)
    refl c.in_ok-push_bin.ensures
    (ap (λ n. contents_at n es rows path (Some b))
    (c.len-places.ensures ∙ c.requires.source.placed.member_rows)
    ∙ (ap (λ path. contents_at (place_count es) es rows path (Some b))
    (c.in_ok-path.ensures ∙ c.bin_name.ensures)
    ∙ sym (bin_contents es rows (place_count es) (bin_name b) b c.requires.bin)))
    c.in_ok-trees.ensures (ap (λ ts. Seq ts) c.new.ensures)
