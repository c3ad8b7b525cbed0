use Rattle.std.proofs.Common.{◌≡◌, ◌∙◌, sym, ap, length, map}
use Rattle.std.proofs.lemmas.List.{length-map}
use Rattle.cx_order_least.specs.Orders.{pair_before}
use Rattle.cx_order_entries.specs.Members.{texts}
use Rattle.cx_order_entries.specs.Seen.{seen_entry}
use Rattle.cx_order_entries.proofs.NestedLaws.{sorted-groups}
use Rattle.cx_order_entries.proofs.nesting.sorted_groups.Goals as goal

pub returns : goal.returns
returns c =
    let names = c.args.groups.now.names in
    let size : c.len.result ≡ length (texts c.args.groups.now) =
    c.len.ensures ∙ names.ok.0 ∙ sym (length-map names.items (λ name. name.now)) in
    sorted-groups (map seen_entry c.args.entries.now) c.deref.result.now (texts c.args.groups.now)
    c.len.result c.least_order.result c.requires.names size
    (λ a b. ap (λ ps. pair_before ps a b) c.deref.ensures.value ∙ c.in_ok-pairs.ensures a b)
    c.least_order.ensures
