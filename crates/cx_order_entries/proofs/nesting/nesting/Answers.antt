use Rattle.std.proofs.Common.{rules, ◌∙◌, ap, length, map, filter_map}
use Rattle.std.specs.Prelude.{slice_get}
use Rattle.cx_order_entries.specs.Nested.{contains_at}
use Rattle.cx_order_least.specs.Orders.{numbers, IsLeastOrder, IsCycle}
use Rattle.cx_order_entries.specs.Members.{texts}
use Rattle.cx_order_entries.specs.Seen.{seen_entry}
use Rattle.cx_order_entries.proofs.FirstGroups.{nested-cycle, nested-order}
use Rattle.cx_order_entries.proofs.nesting.nesting.Goals as goal

pub returns-in-Ok-InOrder : goal.returns-in-Ok-InOrder
returns-in-Ok-InOrder c =
    let es = map seen_entry c.args.entries.now in
    let ts = texts c.args.groups.now in
    let least : IsLeastOrder (contains_at es) (numbers (length ts)) c.in-Ok-InOrder.nested =
    search rules in
    nested-order es ts c.in-Ok-InOrder.nested c.requires.names least

pub returns-in-Ok : goal.returns-in-Ok
returns-in-Ok c =
    let es = map seen_entry c.args.entries.now in
    let ts = texts c.args.groups.now in
    let ks = c.in-Ok-InCycle.numbers in
    let cycle : IsCycle (contains_at es) ks = search rules in
    nested-cycle es ts c.in-Ok.names ks c.requires.names
    (c.in-Ok.ensures
    ∙ ap (λ gs. filter_map (λ k. slice_get (map (λ name. name.now) gs) k) c.as_slice.result.now)
    c.deref.ensures.value
    ∙ ap (λ ks. filter_map (λ k. slice_get ts k) ks) c.as_slice.ensures)
    cycle
